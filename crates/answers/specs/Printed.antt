-- The line that is printed for an answer.
use Rattle.std.specs.Prelude.{ℕ, List, ◌++◌, codes, decimal}
use Rattle.answers.specs.declared.types.Reply.{Reply}
use Rattle.answers.specs.declared.types.Answer.{Answer}
use Rattle.answers.specs.declared.types.Answer.TheVariants.{Fine, Run, Called, Replied, Done, Open, Never, Refused}

-- the place, the kind and the value of a reply
abbrev pub reply : Reply → List ℕ
reply r = decimal r.place ++ (codes " " ++ (decimal r.kind ++ (codes " " ++ decimal r.value)))

abbrev pub printed : Answer → List ℕ
printed Fine = codes "(ok)"
printed (Run n k) = codes "(run " ++ (decimal n ++ (codes " " ++ (decimal k ++ codes ")")))
printed (Called n) = codes "(open " ++ (decimal n ++ codes ")")
printed (Replied r) = codes "(reply " ++ (reply r ++ codes ")")
printed (Done r) = codes "(done " ++ (reply r ++ codes ")")
printed Open = codes "(open)"
printed Never = codes "(none)"
printed (Refused n d) = codes "(no " ++ (decimal n ++ (codes " " ++ (decimal d ++ codes ")")))
