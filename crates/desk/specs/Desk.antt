-- What the desk is told of an operation that it performs.
use Rattle.std.specs.Prelude.{cond}
use Rattle.book.specs.Rules.{Rules, Reply, is_update, apply_reply, ask_reply}
use Rattle.book.specs.declared.types.Op.{Op}

-- an update's reply or a query's, or that of the wrong sort
abbrev pub performed_reply : {S : Type 0} → Rules S → S → Op → Reply
performed_reply R s o = cond (is_update (R.sort o)) (apply_reply R s o) (ask_reply R s o)
