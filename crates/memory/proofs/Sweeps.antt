-- A loop that goes through the lines once and makes of each what f does, with the line's own number.
use Rattle.std.proofs.Common.{◌≡◌, ℕ, ◌+◌, ◌<◌, ◌≤◌, List, [], ◌∷◌, ◌++◌, map, length, get_or, take, drop, set, sym, ap, ◌∙◌, ap₂, arith, length-set}
use Rattle.std.proofs.lemmas.List.{take_all, take_more, take_more_set, drop-drop, drop-set-lt, get_or-drop, length-map, map-set, get_or-map}
use Rattle.memory.specs.Model.{Line, blank_line, each}
use Rattle.memory.specs.Lazy.{line_of}
use Rattle.memory.proofs.Each.{length_each, each_at}
use Rattle.memory.specs.declared.types.LineRec.{LineRec}

-- the first i lines are done, the others as they were
pub record Swept (f : ℕ → Line → Line) (ns : List ℕ) (olds : List LineRec) (i : ℕ) (news : List LineRec) : Type 0 where
  pub long : length news ≡ length olds
  pub done : take i (map line_of news) ≡ take i (each f ns (map line_of olds))
  pub rest : drop i (map line_of news) ≡ drop i (map line_of olds)

-- what stands at i is the first of what is left from i on
at_front : (xs : List Line) (i : ℕ) → get_or xs i blank_line ≡ get_or (drop i xs) 0 blank_line
at_front xs i = ap (λ k. get_or xs k blank_line) (omega arith) ∙ sym (get_or-drop i xs 0 blank_line)

pub line_read : (rs : List LineRec) (i : ℕ) (r : LineRec) → i < length rs → line_of (get_or rs i r) ≡ get_or (map line_of rs) i blank_line
line_read rs i r h = sym (get_or-map line_of rs i r blank_line h)

module _ (f : ℕ → Line → Line) (ns : List ℕ) (olds : List LineRec) where
  -- the loop leaves s at i
  pub swept_more : (i : ℕ) (news : List LineRec) → Swept f ns olds i news → i < length olds → (r s : LineRec) → line_of s ≡ f (get_or ns i 0) (line_of (get_or news i r)) →
      Swept f ns olds (i + 1) (set news i s)
  swept_more i news w h r s left =
      let xs = map line_of olds in let ys = map line_of news in
      let in-xs : i < length xs = rw (length-map olds line_of) h in
      let in-news : i < length news = omega (arith, w.long) in
      let in_ys : i < length ys = rw (length-map news line_of) in-news in
      let in-each : i < length (each f ns xs) = rw (length_each f ns xs) in-xs in
      let before : line_of (get_or news i r) ≡ get_or xs i blank_line =
      line_read news i r in-news ∙ at_front ys i ∙ ap (λ (l : List Line). get_or l 0 blank_line) w.rest ∙ sym (at_front xs i) in
      let here : line_of s ≡ get_or (each f ns xs) i blank_line = left ∙ ap (f (get_or ns i 0)) before ∙ sym (each_at f ns xs i in-xs) in
      record {
        long = length-set news i s ∙ w.long;
        done =
            ap (take (i + 1)) (map-set line_of news i s) ∙ take_more_set ys i (line_of s) in_ys
            ∙ ap₂ (λ (l : List Line) (y : Line). l ++ (y ∷ [])) w.done here ∙ sym (take_more (each f ns xs) i blank_line in-each);
        rest =
            ap (drop (i + 1)) (map-set line_of news i s) ∙ drop-set-lt (i + 1) ys i (line_of s) (omega arith)
            ∙ sym (drop-drop 1 i ys) ∙ ap (drop 1) w.rest ∙ drop-drop 1 i xs;
      }

  pub swept_all : (i : ℕ) (news : List LineRec) → Swept f ns olds i news → length olds ≤ i → map line_of news ≡ each f ns (map line_of olds)
  swept_all i news w h =
      sym (take_all i (map line_of news) (rw (length-map news line_of) (omega (arith, w.long))))
      ∙ w.done ∙ take_all i (each f ns (map line_of olds)) (rw (length_each f ns (map line_of olds), length-map olds line_of) h)
