-- The parts of a line, and the lines of a text.
use Rattle.std.proofs.lemmas.List.{take_more}
use Rattle.std.proofs.lemmas.Bool.{eqb-true}
use Rattle.std.specs.Str.{IsUtf8, IsCharBoundary}
use Rattle.std.proofs.lemmas.Str.{IsCharBoundary-after_ascii, IsCharBoundary-end}
use Rattle.std.proofs.lemmas.List.{append-nil, get_or-append-add}
use Rattle.std.proofs.Math.Seq.{take-length, take-append_seam, drop-append_seam}
use Rattle.std.proofs.Common.{◌⊎◌, inl, inr, suc, length-drop, length-append, ◌≤◌, add-one, append_assoc, take-append-drop, drop, nat_eq, ◌<◌, take, get_or, subst, ◌≡◌, ℕ, ◌+◌, ◌-◌, Bool, true, false, List, [], ◌∷◌, ◌++◌, length, refl, ap, sym, ◌∙◌, arith, if◌then◌else◌}
use Rattle.commands.specs.Input.{is_blank, before_blanks, unless_blank, line_length, lines_of, onto_first, program_text, program_lines, input_lines, joined, is_last_line}

-- a blank after changes nothing
pub before_blanks-blank : (xs : List ℕ) (b : ℕ) → is_blank b ≡ true → before_blanks (xs ++ b ∷ []) ≡ before_blanks xs
before_blanks-blank [] b e = ap (λ t. if t then [] else b ∷ []) e
before_blanks-blank (x ∷ xs) b e = ap (unless_blank x) (before_blanks-blank xs b e)

-- where the last byte is no blank nothing stands after it
pub before_blanks-other : (xs : List ℕ) (b : ℕ) → is_blank b ≡ false → before_blanks (xs ++ b ∷ []) ≡ xs ++ b ∷ []
before_blanks-other [] b e = ap (λ t. if t then [] else b ∷ []) e
before_blanks-other (x ∷ []) b e = ap (unless_blank x) (before_blanks-other [] b e)
before_blanks-other (x ∷ y ∷ xs) b e = ap (unless_blank x) (before_blanks-other (y ∷ xs) b e)

split_last : (xs : List ℕ) → 0 < length xs → xs ≡ take (length xs - 1) xs ++ get_or xs (length xs - 1) 0 ∷ []
split_last xs some =
    let at : length xs - 1 + 1 ≡ length xs = omega arith in
    let whole : take (length xs - 1 + 1) xs ≡ xs = ap (λ n. take n xs) at ∙ take-length xs in
    sym whole ∙ take_more xs (length xs - 1) 0 (omega arith)

-- a blank at the end may go
pub before_blanks-shorter : (xs : List ℕ) → 0 < length xs → is_blank (get_or xs (length xs - 1) 0) ≡ true → before_blanks (take (length xs - 1) xs) ≡ before_blanks xs
before_blanks-shorter xs some e = sym (before_blanks-blank (take (length xs - 1) xs) _ e) ∙ ap before_blanks (sym (split_last xs some))

-- another byte at the end stays
pub before_blanks-same : (xs : List ℕ) → 0 < length xs → is_blank (get_or xs (length xs - 1) 0) ≡ false → before_blanks xs ≡ xs
before_blanks-same xs some e = ap before_blanks (split_last xs some) ∙ before_blanks-other (take (length xs - 1) xs) _ e ∙ sym (split_last xs some)

pub line_length-within : (xs : List ℕ) → line_length xs ≤ length xs
line_length-within [] = omega arith
line_length-within (b ∷ bs) = within (nat_eq b 10) (line_length-within bs)
  where
    within : (c : Bool) → line_length bs ≤ length bs → (if c then 1 else line_length bs + 1) ≤ length (b ∷ bs)
    within true h = omega arith
    within false h = omega arith

pub line_length-some : (xs : List ℕ) → 0 < length xs → 0 < line_length xs
line_length-some [] some = absurd (omega arith)
line_length-some (b ∷ bs) some = some_of (nat_eq b 10)
  where
    some_of : (c : Bool) → 0 < (if c then 1 else line_length bs + 1)
    some_of true = omega arith
    some_of false = omega arith

-- the first line, and the lines after it
pub lines_of-first : (xs : List ℕ) → 0 < length xs → lines_of xs ≡ take (line_length xs) xs ∷ lines_of (drop (line_length xs) xs)
lines_of-first [] some = absurd (omega arith)
lines_of-first (b ∷ bs) some = first (nat_eq b 10) (lines_of-first bs)
  where
    more : (cs : List ℕ) → (0 < length cs → lines_of cs ≡ take (line_length cs) cs ∷ lines_of (drop (line_length cs) cs)) → onto_first b (lines_of cs) ≡ (b ∷ take (line_length cs) cs) ∷ lines_of (drop (line_length cs) cs)
    more [] h = refl
    more (c ∷ cs) h = ap (onto_first b) (h (omega arith))

    first : (c : Bool) → (0 < length bs → lines_of bs ≡ take (line_length bs) bs ∷ lines_of (drop (line_length bs) bs)) → (if c then (b ∷ []) ∷ lines_of bs else onto_first b (lines_of bs)) ≡ take (if c then 1 else line_length bs + 1) (b ∷ bs) ∷ lines_of (drop (if c then 1 else line_length bs + 1) (b ∷ bs))
    first true h = refl
    first false h = more bs h ∙ ap (λ n. take n (b ∷ bs) ∷ lines_of (drop n (b ∷ bs))) (sym (add-one (line_length bs)))

-- what was read is the front of the text, and of the program text
pub record Reads (rest text : List ℕ) : Type 0 where
  pub read : List ℕ
  pub all : text ≡ read ++ rest
  pub program : program_text text ≡ read ++ program_text rest
  pub inputs : input_lines (lines_of text) ≡ input_lines (lines_of rest)

pub reads_none : (text : List ℕ) → Reads text text
reads_none text = record { read = []; all = refl; program = refl; inputs = refl }

-- a line before the last one
pub reads_line : (rest text line behind : List ℕ) → 0 < length rest → line ≡ take (line_length rest) rest → behind ≡ drop (line_length rest) rest → is_last_line line ≡ false → Reads rest text → Reads behind text
reads_line rest text line behind some l b e r = record {
  read = r.read ++ line;
  all = r.all ∙ ap (λ t. r.read ++ t) whole ∙ sym (append_assoc r.read line behind);
  program = r.program ∙ ap (λ t. r.read ++ joined (program_lines t)) lines ∙ ap (λ t. r.read ++ (line ++ joined (if t then [] else program_lines (lines_of behind)))) e ∙ sym (append_assoc r.read line (program_text behind));
  inputs = r.inputs ∙ ap input_lines lines ∙ ap (λ t. if t then lines_of behind else input_lines (lines_of behind)) e;
}
  where
    whole : rest ≡ line ++ behind
    whole = sym (take-append-drop (line_length rest) rest) ∙ ap (λ t. t ++ drop (line_length rest) rest) (sym l) ∙ ap (λ t. line ++ t) (sym b)

    lines : lines_of rest ≡ line ∷ lines_of behind
    lines = lines_of-first rest some ∙ ap (λ t. t ∷ lines_of (drop (line_length rest) rest)) (sym l) ∙ ap (λ t. line ∷ lines_of t) (sym b)

-- what a length cuts a text into
pub record Cuts (n : ℕ) (text : List ℕ) : Type 0 where
  pub program : take n text ≡ program_text text
  pub rest : lines_of (drop n text) ≡ input_lines (lines_of text)

cut_at : (front behind text : List ℕ) → text ≡ front ++ behind → program_text text ≡ front → lines_of behind ≡ input_lines (lines_of text) → Cuts (length text - length behind) text
cut_at front behind text all program rest = record {
  program = ap (λ n. take n text) size ∙ ap (take (length front)) all ∙ take-append_seam front behind ∙ sym program;
  rest = ap lines_of (ap (λ n. drop n text) size ∙ ap (drop (length front)) all ∙ drop-append_seam front behind) ∙ rest;
}
  where
    size : length text - length behind ≡ length front
    size = let e = ap length all ∙ length-append front behind in omega arith

-- at the last line
pub cut_here : (rest text line behind : List ℕ) → 0 < length rest → line ≡ take (line_length rest) rest → behind ≡ drop (line_length rest) rest → is_last_line line ≡ true → Reads rest text → Cuts (length text - length behind) text
cut_here rest text line behind some l b e r = cut_at (r.read ++ line) behind text all program inputs
  where
    whole : rest ≡ line ++ behind
    whole = sym (take-append-drop (line_length rest) rest) ∙ ap (λ t. t ++ drop (line_length rest) rest) (sym l) ∙ ap (λ t. line ++ t) (sym b)

    lines : lines_of rest ≡ line ∷ lines_of behind
    lines = lines_of-first rest some ∙ ap (λ t. t ∷ lines_of (drop (line_length rest) rest)) (sym l) ∙ ap (λ t. line ∷ lines_of t) (sym b)

    all : text ≡ (r.read ++ line) ++ behind
    all = r.all ∙ ap (λ t. r.read ++ t) whole ∙ sym (append_assoc r.read line behind)

    program : program_text text ≡ r.read ++ line
    program = r.program ∙ ap (λ t. r.read ++ joined (program_lines t)) lines ∙ ap (λ t. r.read ++ (line ++ joined (if t then [] else program_lines (lines_of behind)))) e ∙ ap (λ t. r.read ++ t) (append-nil line)

    inputs : lines_of behind ≡ input_lines (lines_of text)
    inputs = sym (r.inputs ∙ ap input_lines lines ∙ ap (λ t. if t then lines_of behind else input_lines (lines_of behind)) e)

-- where no line is the last one
pub cut_nowhere : (rest text : List ℕ) → length rest ≡ 0 → Reads rest text → Cuts (length text) text
cut_nowhere [] text none r = record {
  program = take-length text ∙ r.all ∙ sym r.program;
  rest = ap lines_of drop_whole ∙ sym r.inputs;
}
  where
    drop_whole : drop (length text) text ≡ []
    drop_whole = ap (λ t. drop (length text) t) (sym (append-nil text)) ∙ drop-append_seam text []
cut_nowhere (b ∷ bs) text none r = absurd (omega arith)

-- the first line, and the lines after it, as they are split
pub lines_split : (rest line behind : List ℕ) → 0 < length rest → line ≡ take (line_length rest) rest → behind ≡ drop (line_length rest) rest → lines_of rest ≡ line ∷ lines_of behind
lines_split rest line behind some l b = lines_of-first rest some ∙ ap (λ t. t ∷ lines_of (drop (line_length rest) rest)) (sym l) ∙ ap (λ t. line ∷ lines_of t) (sym b)

same_number : (a b : ℕ) → nat_eq a b ≡ true → a ≡ b
same_number a b e = eqb-true a b e

-- the first line is all there is, or ends with a line feed
line_end : (xs : List ℕ) → 0 < length xs → (line_length xs ≡ length xs) ⊎ (get_or xs (line_length xs - 1) 0 ≡ 10)
line_end [] some = absurd (omega arith)
line_end (b ∷ bs) some = first (nat_eq b 10) refl (line_end bs)
  where
    more : (cs : List ℕ) → (0 < length cs → (line_length cs ≡ length cs) ⊎ (get_or cs (line_length cs - 1) 0 ≡ 10)) → (line_length cs + 1 ≡ length (b ∷ cs)) ⊎ (get_or (b ∷ cs) (line_length cs + 1 - 1) 0 ≡ 10)
    more [] h = inl refl
    more (c ∷ cs) h = later (h (omega arith))
      where
        later : (line_length (c ∷ cs) ≡ length (c ∷ cs)) ⊎ (get_or (c ∷ cs) (line_length (c ∷ cs) - 1) 0 ≡ 10) → (line_length (c ∷ cs) + 1 ≡ length (b ∷ c ∷ cs)) ⊎ (get_or (b ∷ c ∷ cs) (line_length (c ∷ cs) + 1 - 1) 0 ≡ 10)
        later (inl e) = inl (omega arith)
        later (inr e) =
            let some : 0 < line_length (c ∷ cs) = line_length-some (c ∷ cs) (omega arith) in
            let at : line_length (c ∷ cs) + 1 - 1 ≡ suc (line_length (c ∷ cs) - 1) = omega arith in
            inr (ap (λ n. get_or (b ∷ c ∷ cs) n 0) at ∙ e)

    first : (t : Bool) → nat_eq b 10 ≡ t → (0 < length bs → (line_length bs ≡ length bs) ⊎ (get_or bs (line_length bs - 1) 0 ≡ 10)) → ((if t then 1 else line_length bs + 1) ≡ length (b ∷ bs)) ⊎ (get_or (b ∷ bs) ((if t then 1 else line_length bs + 1) - 1) 0 ≡ 10)
    first true e h = inr (same_number b 10 e)
    first false e h = more bs h

-- a text may be cut after a line
pub boundary_behind : (rest text line behind : List ℕ) → 0 < length rest → line ≡ take (line_length rest) rest → behind ≡ drop (line_length rest) rest → Reads rest text → IsUtf8 text → IsCharBoundary text (length text - length behind)
boundary_behind rest text line behind some l b r u = at (line_end rest some)
  where
    parts : length behind + line_length rest ≡ length rest
    parts = let e = ap length b ∙ length-drop (line_length rest) rest in let w = line_length-within rest in omega arith

    whole : length text ≡ length r.read + length rest
    whole = ap length r.all ∙ length-append r.read rest

    at : (line_length rest ≡ length rest) ⊎ (get_or rest (line_length rest - 1) 0 ≡ 10) → IsCharBoundary text (length text - length behind)
    at (inl e) = let here : length text ≡ length text - length behind = omega (arith, parts, whole, e) in subst (IsCharBoundary text) here (IsCharBoundary-end text)
    at (inr e) =
        let n : 0 < line_length rest = line_length-some rest some in
        let feed : get_or text (length r.read + (line_length rest - 1)) 0 ≡ 10 = ap (λ t. get_or t (length r.read + (line_length rest - 1)) 0) r.all ∙ get_or-append-add r.read rest (line_length rest - 1) 0 ∙ e in
        let here : length r.read + (line_length rest - 1) + 1 ≡ length text - length behind = omega (arith, parts, whole, n) in
        let within : length r.read + (line_length rest - 1) < length text = omega (arith, parts, whole, n) in
        subst (IsCharBoundary text) here (IsCharBoundary-after_ascii text (length r.read + (line_length rest - 1)) u within (omega (arith, feed)))
