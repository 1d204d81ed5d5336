-- Which bytes come over a stream. No standard says how bytes are kept between two calls; it is this project's.
use Rattle.std.specs.Prelude.{◌≡◌, ℕ, List, ◌++◌, drop, Option, Some, None, ⊤}

-- Of the bytes that came and weren't used, with those that are still to come after them, none is lost, none is added, and
-- each stays in its place; so far as it is known which are to come.
abbrev pub Conserves : List ℕ → Option (List ℕ) → List ℕ → Option (List ℕ) → Type 0
Conserves rest None rest' coming' = ⊤
Conserves rest (Some coming) rest' None = ⊥
Conserves rest (Some coming) rest' (Some coming') = rest ++ coming ≡ rest' ++ coming'

-- What was taken, with the bytes that came and weren't used after it, and those that are still to come after these, stays the
-- same: each byte is handed over once, in its place; so far as they are known.
abbrev pub HandsOver : Option (List ℕ) → List ℕ → Option (List ℕ) → Option (List ℕ) → List ℕ → Option (List ℕ) → Type 0
HandsOver None rest coming taken' rest' coming' = ⊤
HandsOver (Some taken) rest None taken' rest' coming' = ⊤
HandsOver (Some taken) rest (Some coming) None rest' coming' = ⊥
HandsOver (Some taken) rest (Some coming) (Some taken') rest' None = ⊥
HandsOver (Some taken) rest (Some coming) (Some taken') rest' (Some coming') = taken ++ rest ++ coming ≡ taken' ++ rest' ++ coming'

-- the bytes that are to go out begin with these
abbrev pub BeginsWith : Option (List ℕ) → List ℕ → Type 0
BeginsWith None bytes = ⊤
BeginsWith (Some left) bytes = (more : List ℕ) × (left ≡ bytes ++ more)

-- so many of them are gone
abbrev pub Drops : ℕ → Option (List ℕ) → Option (List ℕ) → Type 0
Drops n None left' = ⊤
Drops n (Some left) None = ⊥
Drops n (Some left) (Some left') = left' ≡ drop n left

-- What went out, with what is to go out after it, stays the same: what is gone is what went out, and no more; so far as it is
-- known.
abbrev pub Forwards : Option (List ℕ) → Option (List ℕ) → Option (List ℕ) → Option (List ℕ) → Type 0
Forwards None left sent' left' = ⊤
Forwards (Some sent) None sent' left' = ⊤
Forwards (Some sent) (Some left) None left' = ⊥
Forwards (Some sent) (Some left) (Some sent') None = ⊥
Forwards (Some sent) (Some left) (Some sent') (Some left') = sent ++ left ≡ sent' ++ left'
