-- The tally: a sum that stays at or below a limit.
use Rattle.std.specs.Prelude.{ℕ, ◌+◌, ◌≤◌, Bool, cond, ◌&&◌, Some, None, Option, ◌==◌, nat_le}
use Rattle.book.specs.Rules.{Rules, Reply, wrong_sort}
use Rattle.book.specs.declared.types.Op.{Op}
use Rattle.book.specs.declared.types.Sort.{Sort}
use Rattle.book.specs.declared.types.Sort.TheVariants.{Update, Query, Neither}
use Rattle.book.specs.declared.types.TallyRequest.{TallyRequest}
use Rattle.book.specs.declared.types.TallyRequest.TheVariants.{Add, Read}

abbrev pub most_added : ℕ
most_added = 65535

abbrev pub most_tallied : ℕ
most_tallied = 1000000

-- code 1 with 1 to 65,535 adds, code 2 with 0 reads
abbrev pub tally_request : Op → Option TallyRequest
tally_request o =
    cond (o.code == 1 && (nat_le 1 o.argument && nat_le o.argument most_added)) (Some (Add o.argument))
    (cond (o.code == 2 && o.argument == 0) (Some Read) None)

-- the operation that stands for a request
abbrev pub tally_op : TallyRequest → Op
tally_op (Add n) = record { code = 1; argument = n }
tally_op Read = record { code = 2; argument = 0 }

-- the requests that an operation can stand for
abbrev pub TallyRange : TallyRequest → Type 0
TallyRange (Add n) = (1 ≤ n) × (n ≤ most_added)
TallyRange Read = Unit

abbrev pub tally_sort : Option TallyRequest → Sort
tally_sort (Some (Add n)) = Update
tally_sort (Some Read) = Query
tally_sort None = Neither

abbrev pub fits : ℕ → ℕ → Bool
fits v n = nat_le (v + n) most_tallied

abbrev pub tally_next : ℕ → Option TallyRequest → ℕ
tally_next v (Some (Add n)) = cond (fits v n) (v + n) v
tally_next v (Some Read) = v
tally_next v None = v

abbrev pub tally_reply : ℕ → Option TallyRequest → Reply
tally_reply v (Some (Add n)) = cond (fits v n) (0, v + n) (1, v)
tally_reply v (Some Read) = (0, v)
tally_reply v None = wrong_sort

abbrev pub tally_rules : Rules ℕ
tally_rules = record {
  first = 0;
  sort = λ o. tally_sort (tally_request o);
  next = λ v o. tally_next v (tally_request o);
  reply = λ v o. tally_reply v (tally_request o);
}
