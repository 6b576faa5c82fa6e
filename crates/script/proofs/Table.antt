-- The reader and the table agree, form by form.
use Rattle.std.proofs.Common.{◌≡◌, ℕ, List, [], ◌∷◌, get_or, Ok, codes, None, Result, sym, refl, ◌∙◌}
use Rattle.std.specs.Str.{bytes_eq}
use Rattle.tokens.specs.declared.types.Fault.{Fault}
use Rattle.forms.specs.declared.types.MemoryKind.{MemoryKind}
use Rattle.forms.specs.declared.types.MemoryKind.TheVariants.{Lazy, Through}
use Rattle.forms.specs.declared.types.BookKind.{BookKind}
use Rattle.forms.specs.declared.types.BookKind.TheVariants.{Tally, Slots}
use Rattle.tokens.specs.Tokens.{Placed}
use Rattle.forms.specs.Spoken.{Spoken, memory, object, start, rise, steps, outcome}
use Rattle.script.specs.Grammar.{Slot, closes, counts, any, read_by}
use Rattle.script.specs.Reading as by
use Rattle.script.specs.Reading.{then, some_word, close_bracket, number_within, any_number, alone, finished}
use Rattle.script.proofs.Words.{Group, of_groups, choose, read_choice}
use Rattle.script.proofs.Chains.{seq, named, one_pattern}

abbrev pub group : List ℕ → List Slot → (List ℕ → Spoken) → Group
group w xs f = record { name = w; rest = record { slots = xs; meaning = f } ∷ [] }

abbrev pub kinds : List Group
kinds =
    group (codes "lazy") (counts 8 16 ∷ closes ∷ []) (λ ns. memory Lazy (get_or ns 0 0))
    ∷ group (codes "through") (counts 8 16 ∷ closes ∷ []) (λ ns. memory Through (get_or ns 0 0))
    ∷ []

abbrev pub books : List Group
books =
    group (codes "tally") (closes ∷ []) (λ ns. object Tally)
    ∷ group (codes "slots") (closes ∷ []) (λ ns. object Slots)
    ∷ []

-- a value, a closing bracket and the end
pub closes_line : (x : Spoken) (len : ℕ) (ts : List Placed) → finished (by.closed x len ts) ≡ then (close_bracket len ts) (λ _ ts. alone x ts)
closes_line x len ts = seq (close_bracket len ts) (λ _ ts. Ok (x, ts)) alone (λ _ ts. alone x ts) (λ _ ts. refl)

module _ (len : ℕ) where
  abbrev behind_kind : MemoryKind → List Placed → Result Spoken Fault
  behind_kind k ts = then (number_within 8 16 len ts) (λ n ts. then (close_bracket len ts) (λ _ ts. alone (memory k n) ts))

  kind_reads : (w : List ℕ) (col : ℕ) (ts : List Placed) → then (by.kind_by w col ts) behind_kind ≡ choose w kinds col (λ ps. read_by ps [] len ts)
  kind_reads w col ts =
      named (bytes_eq w (codes "lazy")) _ _ col ts behind_kind _ _ (one_pattern (counts 8 16 ∷ closes ∷ []) (λ ns. memory Lazy (get_or ns 0 0)) [] len ts)
      (named (bytes_eq w (codes "through")) _ None col ts behind_kind _ _ (one_pattern (counts 8 16 ∷ closes ∷ []) (λ ns. memory Through (get_or ns 0 0)) [] len ts) refl)

  pub memory_reads : (ts : List Placed) → finished (by.memory_form len ts) ≡ read_by (of_groups kinds) [] len ts
  memory_reads ts =
      seq (by.kind_word len ts) (λ k ts. then (number_within 8 16 len ts) (λ n ts. by.closed (memory k n) len ts)) alone behind_kind
      (λ k ts. seq (number_within 8 16 len ts) (λ n ts. by.closed (memory k n) len ts) alone _ (λ n ts. closes_line (memory k n) len ts))
      ∙ seq (some_word len ts) (λ w ts. by.kind_by w.0 w.1 ts) behind_kind _ (λ w ts. kind_reads w.0 w.1 ts)
      ∙ sym (read_choice kinds [] len ts refl)

  abbrev behind_book : BookKind → List Placed → Result Spoken Fault
  behind_book b ts = then (close_bracket len ts) (λ _ ts. alone (object b) ts)

  book_reads : (w : List ℕ) (col : ℕ) (ts : List Placed) → then (by.book_by w col ts) behind_book ≡ choose w books col (λ ps. read_by ps [] len ts)
  book_reads w col ts =
      named (bytes_eq w (codes "tally")) _ _ col ts behind_book _ _ (one_pattern (closes ∷ []) (λ ns. object Tally) [] len ts)
      (named (bytes_eq w (codes "slots")) _ None col ts behind_book _ _ (one_pattern (closes ∷ []) (λ ns. object Slots) [] len ts) refl)

  pub object_reads : (ts : List Placed) → finished (by.object_form len ts) ≡ read_by (of_groups books) [] len ts
  object_reads ts =
      seq (by.book_word len ts) (λ b ts. by.closed (object b) len ts) alone behind_book (λ b ts. closes_line (object b) len ts)
      ∙ seq (some_word len ts) (λ w ts. by.book_by w.0 w.1 ts) behind_book _ (λ w ts. book_reads w.0 w.1 ts)
      ∙ sym (read_choice books [] len ts refl)

  pub start_reads : (ts : List Placed) → finished (by.start_form len ts) ≡ read_by (record { slots = closes ∷ []; meaning = λ ns. start } ∷ []) [] len ts
  start_reads ts = closes_line start len ts ∙ one_pattern (closes ∷ []) (λ ns. start) [] len ts

  pub rise_reads : (ts : List Placed) → finished (by.rise_form len ts) ≡ read_by (record { slots = closes ∷ []; meaning = λ ns. rise } ∷ []) [] len ts
  rise_reads ts = closes_line rise len ts ∙ one_pattern (closes ∷ []) (λ ns. rise) [] len ts

  pub steps_reads : (ts : List Placed) → finished (by.steps_form len ts) ≡ read_by (record { slots = any ∷ counts 1 18446744073709551615 ∷ closes ∷ []; meaning = λ ns. steps (get_or ns 0 0) (get_or ns 1 0) } ∷ []) [] len ts
  steps_reads ts =
      seq (any_number len ts) (λ s ts. then (number_within 1 18446744073709551615 len ts) (λ c ts. by.closed (steps s c) len ts)) alone _
      (λ s ts. seq (number_within 1 18446744073709551615 len ts) (λ c ts. by.closed (steps s c) len ts) alone _ (λ c ts. closes_line (steps s c) len ts))
      ∙ one_pattern (any ∷ counts 1 18446744073709551615 ∷ closes ∷ []) (λ ns. steps (get_or ns 0 0) (get_or ns 1 0)) [] len ts

  pub outcome_reads : (ts : List Placed) → finished (by.outcome_form len ts) ≡ read_by (record { slots = any ∷ any ∷ any ∷ closes ∷ []; meaning = λ ns. outcome (get_or ns 0 0) (get_or ns 1 0) (get_or ns 2 0) } ∷ []) [] len ts
  outcome_reads ts =
      seq (any_number len ts) (λ r ts. then (any_number len ts) (λ s ts. then (any_number len ts) (λ n ts. by.closed (outcome r s n) len ts))) alone _
      (λ r ts. seq (any_number len ts) (λ s ts. then (any_number len ts) (λ n ts. by.closed (outcome r s n) len ts)) alone _
      (λ s ts. seq (any_number len ts) (λ n ts. by.closed (outcome r s n) len ts) alone _ (λ n ts. closes_line (outcome r s n) len ts)))
      ∙ one_pattern (any ∷ any ∷ any ∷ closes ∷ []) (λ ns. outcome (get_or ns 0 0) (get_or ns 1 0) (get_or ns 2 0)) [] len ts
