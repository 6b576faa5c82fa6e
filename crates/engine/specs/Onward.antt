-- The law over one call.
use Rattle.std.specs.Prelude.{List, ◌∷◌}
use Rattle.book.specs.Rules.{Rules}
use Rattle.model.specs.History.{Moment, World, Led}
use Rattle.model.specs.Law.{Promises}

-- whatever history has led to the world v, that history and x lead to the world w, and all the promises hold of it
pub record Onward {S : Type 0} (R : Rules S) (v : World S) (x : Moment) (w : World S) : Type 0 where
  pub leads : (h : List Moment) → Led R h v → Led R (x ∷ h) w
  pub keeps : (h : List Moment) → Led R h v → Promises R (x ∷ h) w
