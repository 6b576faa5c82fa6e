-- What a stage of writing makes of the memory.
use Rattle.std.proofs.Common.{◌≡◌, ℕ, suc, pred, ◌+◌, ◌*◌, ◌/◌, ◌%◌, ◌<◌, ◌≤◌, Bool, true, false, cond, eqb, ltb, List, [], length, get_or, set, Some, Option, sym, refl, ap, ◌∙◌, subst, subst₂, mul-le-mul_right, arith}
use Rattle.std.proofs.lemmas.Bool.{lt-ltb, ltb-true}
use Rattle.memory.specs.Model.{Mem, Line, early, with_line, line_at, push_store, ask, blank_line, has_line}
use Rattle.model.specs.Journal.{station_count, word, Entry, log_length, log_start, used_lines}
use Rattle.model.specs.Machine.{Machine, touched, write_touch, target_line, station_at, node_at}
use Rattle.model.specs.Machine.Touch.{store, write_back}
use Rattle.model.specs.declared.types.Update.{Update}
use Rattle.model.specs.declared.types.Node.{Node}
use Rattle.model.proofs.Lines.{staged}
use Rattle.model.proofs.Log.{Logged, logged_step}
use Rattle.model.proofs.Logs.{Part, Holds, begun_lines, no_part, at_stage}
use Rattle.model.proofs.Memory.{Memory, memory_early, memory_change, memory_length, memory_lines}
use Rattle.model.proofs.Target.{line_for, target_entry, target_at, target_count}

-- the two tests of a stage, on the touch and on the line
staged_touch : (b c : Bool) (l k v : ℕ) (ns : List ℕ) (m : Mem) → has_line m l ≡ true → (c ≡ true → ltb k 8 ≡ true) →
    touched (cond b (store l 7 0) (cond c (store l k v) (write_back l))) ns m
    ≡ early ns (with_line m l (cond b (push_store (line_at m l) 7 0) (cond c (push_store (line_at m l) k v) (ask (line_at m l)))))
staged_touch true c l k v ns m h w = rw h
staged_touch false true l k v ns m h w = rw (h, w refl)
staged_touch false false l k v ns m h w = rw h

-- the update at a place of an order
abbrev pub order_at : List Node → ℕ → Update
order_at o i = (node_at o i).update

-- station s writes the entry for `own` with n lines, and makes its next stage
pub write_step : {S : Type 0} (r : Machine S) (s own n stage L : ℕ) (ps : List Part) → Memory r.number L ps r.memory →
    1 ≤ s → s ≤ station_count → (station_at r s).used ≡ used_lines (get_or ps (pred s) no_part).standing → (station_at r s).used + n ≤ L →
    (get_or ps (pred s) no_part).begun ≡ Some (target_entry r.number (order_at r.order) own n) → (get_or ps (pred s) no_part).stage ≡ stage →
    stage < 10 * n → (ns : List ℕ) →
    Memory r.number L (set ps (pred s) (at_stage (get_or ps (pred s) no_part) (suc stage))) (touched (write_touch r s own n stage) ns r.memory)
write_step r s own n stage L ps x low high u fit d st h ns =
    subst (λ (y : Mem). Memory r.number L (set ps (pred s) (at_stage p (suc stage))) y)
    (sym (staged_touch (eqb j 0) (ltb j 9) l (pred j) (word w (pred j)) ns r.memory here
    (λ c. lt-ltb (pred j) 8 (let k = ltb-true j 9 c in omega arith))))
    (memory_early (memory_change x s line (staged w j) (at_stage p (suc stage)) low high (omega arith) log_step l line_is) ns)
  where
    p : Part
    p = get_or ps (pred s) no_part

    t : ℕ
    t = stage / 10

    j : ℕ
    j = stage % 10

    l : ℕ
    l = log_start (log_length r.memory) s + (station_at r s).used + t

    w : List ℕ
    w = target_line r own n t

    -- the line's number in the log
    line : ℕ
    line = used_lines p.standing + t

    line_is : l ≡ 1 + pred s * L + line
    line_is =
        ap (λ (i : ℕ). 1 + pred s * i + (station_at r s).used + t) (memory_length x) ∙ ap (λ (i : ℕ). 1 + pred s * L + i + t) u ∙ omega arith

    here : has_line r.memory l ≡ true
    here =
        let k = memory_lines x in let g : pred s * L ≤ 7 * L = mul-le-mul_right L (omega arith) in
        lt-ltb l (length r.memory.lines) (omega (arith, line_is))

    line_t : get_or (begun_lines p.begun) t [] ≡ w
    line_t =
        let z : 0 + t ≡ t = omega arith in
        ap (λ (y : Option Entry). get_or (begun_lines y) t []) d ∙ target_at r.number (order_at r.order) own n 0 n t (omega arith)
        ∙ ap (line_for r.number (order_at r.order) own n) z

    count : length (begun_lines p.begun) ≡ n
    count = ap (λ (y : Option Entry). length (begun_lines y)) d ∙ target_count r.number (order_at r.order) own n 0 n

    log_step : (log : List Line) → length log ≡ L → Holds s r.number p log →
        Holds s r.number (at_stage p (suc stage)) (set log line (staged w j (get_or log line blank_line)))
    log_step log e g = record {
      logged =
          subst₂ (λ (i : ℕ) (v : List ℕ). Logged s r.number p.standing (begun_lines p.begun) (suc i)
          (set log line (staged v j (get_or log line blank_line)))) st line_t
          (logged_step g.logged t j (omega arith) (omega arith) (omega (arith, count)) blank_line);
      target = g.target;
    }
