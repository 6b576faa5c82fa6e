-- The reader and the table agree on calls.
use Rattle.std.proofs.Common.{◌≡◌, ℕ, List, [], ◌∷◌, map, get_or, Ok, codes, Result, sym, refl, ◌∙◌}
use Rattle.std.specs.Str.{bytes_eq}
use Rattle.tokens.specs.declared.types.Fault.{Fault}
use Rattle.forms.specs.declared.types.Request.{Request}
use Rattle.forms.specs.declared.types.Request.TheVariants.{Add, Read, Reserve, Cancel, Holder}
use Rattle.tokens.specs.Tokens.{Placed}
use Rattle.forms.specs.Spoken.{Spoken, call}
use Rattle.script.specs.Grammar.{opens, closes, Pattern, any, half, read_by, prefix}
use Rattle.script.specs.Reading as by
use Rattle.script.specs.Reading.{then, some_word, open_bracket, close_bracket, number_within, any_number, alone, finished}
use Rattle.script.proofs.Patterns.{read_opens, read_counts}
use Rattle.script.proofs.Words.{Group, of_groups, choose, read_choice}
use Rattle.script.proofs.Chains.{seq, test, one_pattern}
use Rattle.script.proofs.Table.{group, closes_line}

abbrev pub operations : List Group
operations =
    group (codes "add") (any ∷ closes ∷ closes ∷ []) (λ ns. call (get_or ns 0 0) (Add (get_or ns 1 0)))
    ∷ group (codes "read") (closes ∷ closes ∷ []) (λ ns. call (get_or ns 0 0) Read)
    ∷ group (codes "reserve") (half ∷ half ∷ closes ∷ closes ∷ []) (λ ns. call (get_or ns 0 0) (Reserve (get_or ns 1 0) (get_or ns 2 0)))
    ∷ group (codes "cancel") (any ∷ closes ∷ closes ∷ []) (λ ns. call (get_or ns 0 0) (Cancel (get_or ns 1 0)))
    ∷ group (codes "holder") (any ∷ closes ∷ closes ∷ []) (λ ns. call (get_or ns 0 0) (Holder (get_or ns 1 0)))
    ∷ []

abbrev pub calls : List Pattern
calls = map (prefix any) (map (prefix opens) (of_groups operations))

module _ (len : ℕ) where
  module _ (s : ℕ) where
    -- behind a request, and behind its bracket
    abbrev last : Request → List Placed → Result Spoken Fault
    last q ts = then (close_bracket len ts) (λ _ ts. alone (call s q) ts)

    abbrev behind_request : Request → List Placed → Result Spoken Fault
    behind_request q ts = then (close_bracket len ts) (λ _ ts. last q ts)

    operation_reads : (w : List ℕ) (col : ℕ) (ts : List Placed) → then (by.request_by w col len ts) behind_request ≡ choose w operations col (λ ps. read_by ps (s ∷ []) len ts)
    operation_reads w col ts =
        test (bytes_eq w (codes "add")) _ _ behind_request _ _
        (seq (any_number len ts) (λ n ts. Ok (Add n, ts)) behind_request _ (λ n ts. refl)
        ∙ one_pattern (any ∷ closes ∷ closes ∷ []) (λ ns. call (get_or ns 0 0) (Add (get_or ns 1 0))) (s ∷ []) len ts)
        (test (bytes_eq w (codes "read")) _ _ behind_request _ _ (one_pattern (closes ∷ closes ∷ []) (λ ns. call (get_or ns 0 0) Read) (s ∷ []) len ts)
        (test (bytes_eq w (codes "reserve")) _ _ behind_request _ _
        (seq (number_within 0 4294967295 len ts) (λ a ts. then (number_within 0 4294967295 len ts) (λ b ts. Ok (Reserve a b, ts))) behind_request _
        (λ a ts. seq (number_within 0 4294967295 len ts) (λ b ts. Ok (Reserve a b, ts)) behind_request (λ b ts. behind_request (Reserve a b) ts) (λ b ts. refl))
        ∙ one_pattern (half ∷ half ∷ closes ∷ closes ∷ []) (λ ns. call (get_or ns 0 0) (Reserve (get_or ns 1 0) (get_or ns 2 0))) (s ∷ []) len ts)
        (test (bytes_eq w (codes "cancel")) _ _ behind_request _ _
        (seq (any_number len ts) (λ n ts. Ok (Cancel n, ts)) behind_request _ (λ n ts. refl)
        ∙ one_pattern (any ∷ closes ∷ closes ∷ []) (λ ns. call (get_or ns 0 0) (Cancel (get_or ns 1 0))) (s ∷ []) len ts)
        (test (bytes_eq w (codes "holder")) _ _ behind_request _ _
        (seq (any_number len ts) (λ n ts. Ok (Holder n, ts)) behind_request _ (λ n ts. refl)
        ∙ one_pattern (any ∷ closes ∷ closes ∷ []) (λ ns. call (get_or ns 0 0) (Holder (get_or ns 1 0))) (s ∷ []) len ts)
        refl))))

    bracket_reads : (q : Request) (ts : List Placed) → then (by.closed q len ts) last ≡ behind_request q ts
    bracket_reads q ts = seq (close_bracket len ts) (λ _ ts. Ok (q, ts)) last _ (λ _ ts. refl)

    request_reads : (ts : List Placed) → then (by.request len ts) last ≡ read_by (map (prefix opens) (of_groups operations)) (s ∷ []) len ts
    request_reads ts =
        seq (open_bracket len ts) (λ _ ts. then (some_word len ts) (λ w ts. then (by.request_by w.0 w.1 len ts) (λ q ts. by.closed q len ts))) last _ (λ _ ts.
        seq (some_word len ts) (λ w ts. then (by.request_by w.0 w.1 len ts) (λ q ts. by.closed q len ts)) last _ (λ w ts.
        seq (by.request_by w.0 w.1 len ts) (λ q ts. by.closed q len ts) last behind_request bracket_reads ∙ operation_reads w.0 w.1 ts)
        ∙ sym (read_choice operations (s ∷ []) len ts refl))
        ∙ sym (read_opens (of_groups operations) refl (s ∷ []) len ts)

  pub call_reads : (ts : List Placed) → finished (by.call_form len ts) ≡ read_by calls [] len ts
  call_reads ts =
      seq (any_number len ts) (λ s ts. then (by.request len ts) (λ q ts. by.closed (call s q) len ts)) alone _ (λ s ts.
      seq (by.request len ts) (λ q ts. by.closed (call s q) len ts) alone (last s) (λ q ts. closes_line (call s q) len ts) ∙ request_reads s ts)
      ∙ sym (read_counts (map (prefix opens) (of_groups operations)) refl [] len 0 18446744073709551615 ts)
