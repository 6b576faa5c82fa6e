-- The reader and the table agree on every line.
use Rattle.std.proofs.Common.{◌≡◌, ℕ, List, [], ◌∷◌, map, length, get_or, Ok, Err, codes, sym, refl, ap, ◌∙◌, ap₂}
use Rattle.std.specs.Str.{bytes_eq}
use Rattle.tokens.specs.declared.types.Fault.{Fault}
use Rattle.tokens.specs.declared.lexer.Lexer.{Lexer}
use Rattle.tokens.specs.Tokens.{Placed, tokens_of}
use Rattle.forms.specs.Spoken.{Spoken, start, rise, steps, outcome}
use Rattle.script.specs.Grammar.{opens, closes, counts, any, read_by, prefix, pairs_up_to, table}
use Rattle.tokens.specs.Ahead.{left, line_length}
use Rattle.script.specs.Reading.{Step, then, open_bracket, some_word, alone, finished, form_by, some_form}
use Rattle.script.proofs.Patterns.{read_opens}
use Rattle.script.proofs.Words.{Group, of_groups, choose, read_choice}
use Rattle.script.proofs.Chains.{seq, test}
use Rattle.script.proofs.Table.{group, kinds, books, memory_reads, object_reads, start_reads, rise_reads, steps_reads, outcome_reads}
use Rattle.script.proofs.Calls.{calls, call_reads}
use Rattle.script.proofs.Cuts.{cut_reads}

abbrev heads : List Group
heads =
    record { name = codes "memory"; rest = of_groups kinds }
    ∷ record { name = codes "object"; rest = of_groups books }
    ∷ group (codes "start") (closes ∷ []) (λ ns. start)
    ∷ group (codes "rise") (closes ∷ []) (λ ns. rise)
    ∷ record { name = codes "call"; rest = calls }
    ∷ group (codes "steps") (any ∷ counts 1 18446744073709551615 ∷ closes ∷ []) (λ ns. steps (get_or ns 0 0) (get_or ns 1 0))
    ∷ group (codes "outcome") (any ∷ any ∷ any ∷ closes ∷ []) (λ ns. outcome (get_or ns 0 0) (get_or ns 1 0) (get_or ns 2 0))
    ∷ record { name = codes "cut"; rest = pairs_up_to 16 }
    ∷ []

table_is : map (prefix opens) (of_groups heads) ≡ table
table_is = refl

head_reads : (w : List ℕ) (col len : ℕ) (ts : List Placed) → finished (form_by w col len ts) ≡ choose w heads col (λ ps. read_by ps [] len ts)
head_reads w col len ts =
    test (bytes_eq w (codes "memory")) _ _ alone _ _ (memory_reads len ts)
    (test (bytes_eq w (codes "object")) _ _ alone _ _ (object_reads len ts)
    (test (bytes_eq w (codes "start")) _ _ alone _ _ (start_reads len ts)
    (test (bytes_eq w (codes "rise")) _ _ alone _ _ (rise_reads len ts)
    (test (bytes_eq w (codes "call")) _ _ alone _ _ (call_reads len ts)
    (test (bytes_eq w (codes "steps")) _ _ alone _ _ (steps_reads len ts)
    (test (bytes_eq w (codes "outcome")) _ _ alone _ _ (outcome_reads len ts)
    (test (bytes_eq w (codes "cut")) _ _ alone _ _ (cut_reads 16 [] len ts) refl)))))))

pub form_reads : (len : ℕ) (ts : List Placed) → finished (some_form len ts) ≡ read_by table [] len ts
form_reads len ts =
    seq (open_bracket len ts) (λ _ ts. then (some_word len ts) (λ w ts. form_by w.0 w.1 len ts)) alone _ (λ _ ts.
    seq (some_word len ts) (λ w ts. form_by w.0 w.1 len ts) alone _ (λ w ts. head_reads w.0 w.1 len ts)
    ∙ sym (read_choice heads [] len ts refl))
    ∙ sym (read_opens (of_groups heads) refl [] len ts)
    ∙ ap (λ ps. read_by ps [] len ts) table_is

-- what a new lexer of the line leads to
module _ (l : Lexer) (line : List ℕ) (tokens : left l ≡ tokens_of line) (long : line_length l ≡ length line) where
  whole_line : (s : Step Spoken) → s ≡ some_form (line_length l) (left l) → finished s ≡ read_by table [] (length line) (tokens_of line)
  whole_line s e = ap finished e ∙ form_reads (line_length l) (left l) ∙ ap₂ (λ k ts. read_by table [] k ts) long tokens

  pub whole_fault : (f : Fault) → Err f ≡ some_form (line_length l) (left l) → Err f ≡ read_by table [] (length line) (tokens_of line)
  whole_fault f e = whole_line (Err f) e

  pub whole_form : (m : Spoken) (ts : List Placed) → Ok (m, ts) ≡ some_form (line_length l) (left l) → alone m ts ≡ read_by table [] (length line) (tokens_of line)
  whole_form m ts e = whole_line (Ok (m, ts)) e
