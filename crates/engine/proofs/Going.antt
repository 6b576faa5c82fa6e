-- The law, call by call: what happens goes on from any history that led there.
use Rattle.std.proofs.Common.{◌≡◌, ℕ, List, ◌∷◌, length, Result, sym, ap, ◌∙◌, subst, subst₂}
use Rattle.memory.specs.Model.{Mem, cut}
use Rattle.book.specs.Rules.{Rules}
use Rattle.model.specs.Machine.{Machine, started, start_answer, rising, left, found}
use Rattle.model.specs.History.{Moment, World, Happens}
use Rattle.model.specs.History.World.{resting, running}
use Rattle.model.specs.declared.types.Refusal.{Refusal}
use Rattle.model.specs.declared.types.Started.{Started}
use Rattle.model.proofs.Lasting.{lasting}
use Rattle.engine.specs.Onward.{Onward}

module _ {S : Type 0} (R : Rules S) where
  onward : {v w : World S} {x : Moment} → Happens R v x w → Onward R v x w
  onward {v} {w} {x} hap = record { leads = λ h led. (v, led, hap); keeps = λ h led. lasting R (x ∷ h) w (v, led, hap) }

  pub start_onward : (m : Mem) (w : Machine S) (a : Result Started Refusal) → w ≡ started R m → a ≡ start_answer w w.status →
      Onward R (resting m) (Moment.started a) (running w)
  start_onward m w a is e =
      subst₂ (λ (a : Result Started Refusal) (w : Machine S). Onward R (resting m) (Moment.started a) (running w))
      (sym (e ∙ ap (λ (w : Machine S). start_answer w w.status) is)) (sym is) (onward (Happens.start m))

  pub rise_onward : (v w : Machine S) (a : Result Unit Refusal) (ns : List ℕ) → a ≡ (rising v v.status).answer → w ≡ left (rising v v.status) ns →
      Onward R (running v) (Moment.risen a) (running w)
  rise_onward v w a ns e is =
      subst₂ (λ (a : Result Unit Refusal) (w : Machine S). Onward R (running v) (Moment.risen a) (running w)) (sym e) (sym is) (onward (Happens.rise v ns))

  pub cut_onward : (v : Machine S) (m : Mem) (ns : List ℕ) → m ≡ cut ns v.memory → Onward R (running v) (Moment.cut (length (found m))) (resting m)
  cut_onward v m ns is = subst (λ (m : Mem). Onward R (running v) (Moment.cut (length (found m))) (resting m)) (sym is) (onward (Happens.cut v ns))
