-- Each number of LINT can be written with a sign and digits.
use Rattle.std.proofs.Common.{◌≡◌, ℕ, zero, suc, ◌+◌, ◌*◌, ◌≤◌, Bool, true, false, ℤ, pos, List, [], ◌∷◌, ◌++◌, Some, None, Ok, refl, sym, ap, ◌∙◌, subst, append_assoc, if◌then◌else◌, arith}
use Rattle.std.proofs.lemmas.Int.{ints}
use Rattle.std.specs.Prelude.{neg_ℤ, negsuc}
use Rattle.point_types.specs.declared.il_type.IlType.TheVariants as il
use Rattle.point_types.specs.Value.{low_of, high_of, is_within}
use Rattle.il_reader.specs.declared.fault.ReadFaultKind.TheVariants as fault
use Rattle.il_reader.specs.declared.token.Token.{Token}
use Rattle.il_reader.specs.declared.token.Token.TheVariants as token
use Rattle.il_reader.specs.declared.lexer.Mode.{Mode}
use Rattle.il_reader.specs.declared.lexer.Mode.TheVariants as mode
use Rattle.il_reader.specs.declared.numeral.Spelling.TheVariants as spelling
use Rattle.il_reader.specs.declared.reader.Reader.{Reader}
use Rattle.il_reader.specs.declared.state.State.{State}
use Rattle.il_reader.specs.Tokens.{fails, lexed, stands, number_stands, grown}
use Rattle.il_reader.specs.Reading.{step, stepped, onward, state_read, byte_read, fed_on, fed}

-- where no token is open
abbrev pub clear : ℕ → ℕ → State → Reader
clear n l s = record { line = n; last = l; mode = mode.Clear; state = s }

-- the text and a blank after it are one token
abbrev pub Prints : List ℕ → Token → Type 0
Prints text t = (n l : ℕ) (s s' : State) (rest : List ℕ) → step s t n ≡ Ok s' → fed (clear n l s) (text ++ (32 ∷ rest)) ≡ fed (clear n n s') rest

-- Digits, the last one outermost.

data Digit : Type 0 where
  Zero One Two Three Four Five Six Seven Eight Nine : Digit

abbrev worth : Digit → ℕ
worth Zero = 0
worth One = 1
worth Two = 2
worth Three = 3
worth Four = 4
worth Five = 5
worth Six = 6
worth Seven = 7
worth Eight = 8
worth Nine = 9

abbrev byte : Digit → ℕ
byte Zero = 48
byte One = 49
byte Two = 50
byte Three = 51
byte Four = 52
byte Five = 53
byte Six = 54
byte Seven = 55
byte Eight = 56
byte Nine = 57

data Digits : Type 0 where
  First : Digit → Digits
  More : Digits → Digit → Digits

abbrev text : Digits → List ℕ
text (First x) = byte x ∷ []
text (More ds x) = text ds ++ byte x ∷ []

abbrev number : Digits → ℕ
number (First x) = worth x
number (More ds x) = 10 * number ds + worth x

-- one more
abbrev next : Digits → Digits
next (First Zero) = First One
next (First One) = First Two
next (First Two) = First Three
next (First Three) = First Four
next (First Four) = First Five
next (First Five) = First Six
next (First Six) = First Seven
next (First Seven) = First Eight
next (First Eight) = First Nine
next (First Nine) = More (First One) Zero
next (More ds Zero) = More ds One
next (More ds One) = More ds Two
next (More ds Two) = More ds Three
next (More ds Three) = More ds Four
next (More ds Four) = More ds Five
next (More ds Five) = More ds Six
next (More ds Six) = More ds Seven
next (More ds Seven) = More ds Eight
next (More ds Eight) = More ds Nine
next (More ds Nine) = More (next ds) Zero

next_number : (ds : Digits) → number (next ds) ≡ suc (number ds)
next_number (First Zero) = refl
next_number (First One) = refl
next_number (First Two) = refl
next_number (First Three) = refl
next_number (First Four) = refl
next_number (First Five) = refl
next_number (First Six) = refl
next_number (First Seven) = refl
next_number (First Eight) = refl
next_number (First Nine) = refl
next_number (More ds Zero) = omega arith
next_number (More ds One) = omega arith
next_number (More ds Two) = omega arith
next_number (More ds Three) = omega arith
next_number (More ds Four) = omega arith
next_number (More ds Five) = omega arith
next_number (More ds Six) = omega arith
next_number (More ds Seven) = omega arith
next_number (More ds Eight) = omega arith
next_number (More ds Nine) = let h = next_number ds in omega arith

digits_of : (m : ℕ) → (ds : Digits) × (number ds ≡ m)
digits_of zero = (First Zero, refl)
digits_of (suc m) = more (digits_of m)
  where
    more : (ds : Digits) × (number ds ≡ m) → (ds : Digits) × (number ds ≡ suc m)
    more (ds, e) = (next ds, next_number ds ∙ ap suc e)

-- Reading them.

abbrev signed : Bool → ℕ → ℤ
signed true m = neg_ℤ (pos m)
signed false m = pos m

abbrev greatest : Bool → ℕ
greatest true = 9223372036854775808
greatest false = 9223372036854775807

within : (negative : Bool) (m : ℕ) → m ≤ greatest negative → is_within (low_of il.Lint) (high_of il.Lint) (signed negative m) ≡ true
within true m h = grind (arith, ints)
within false m h = grind (arith, ints)

stands_within : (negative : Bool) (m : ℕ) → m ≤ greatest negative → number_stands None (spelling.Signed negative) (signed negative m) ≡ stands (mode.Number None (spelling.Signed negative) (signed negative m) false)
stands_within negative m h = ap (λ z. if z then stands (mode.Number None (spelling.Signed negative) (signed negative m) false) else fails fault.Literal) (within negative m h)

grown_is : (negative : Bool) (m d : ℕ) → grown (spelling.Signed negative) (signed negative m) d ≡ signed negative (10 * m + d)
grown_is true m d = omega (arith, ints)
grown_is false m d = omega (arith, ints)

first_lexed : (negative : Bool) (x : Digit) → lexed (mode.Sign negative) (byte x) ≡ number_stands None (spelling.Signed negative) (grown (spelling.Signed negative) (pos 0) (worth x))
first_lexed negative Zero = refl
first_lexed negative One = refl
first_lexed negative Two = refl
first_lexed negative Three = refl
first_lexed negative Four = refl
first_lexed negative Five = refl
first_lexed negative Six = refl
first_lexed negative Seven = refl
first_lexed negative Eight = refl
first_lexed negative Nine = refl

more_lexed : (negative : Bool) (v : ℤ) (x : Digit) → lexed (mode.Number None (spelling.Signed negative) v false) (byte x) ≡ number_stands None (spelling.Signed negative) (grown (spelling.Signed negative) v (worth x))
more_lexed negative v Zero = refl
more_lexed negative v One = refl
more_lexed negative v Two = refl
more_lexed negative v Three = refl
more_lexed negative v Four = refl
more_lexed negative v Five = refl
more_lexed negative v Six = refl
more_lexed negative v Seven = refl
more_lexed negative v Eight = refl
more_lexed negative v Nine = refl

-- no digit is a line's end
same_line : (x : Digit) (n : ℕ) → Rattle.il_reader.specs.Tokens.line_behind (byte x) n ≡ n
same_line Zero n = refl
same_line One n = refl
same_line Two n = refl
same_line Three n = refl
same_line Four n = refl
same_line Five n = refl
same_line Six n = refl
same_line Seven n = refl
same_line Eight n = refl
same_line Nine n = refl

abbrev in_mode : ℕ → Mode → State → Reader
in_mode n q s = record { line = n; last = n; mode = q; state = s }

one_byte : (n : ℕ) (q r : Mode) (s : State) (x : Digit) (rest : List ℕ) → lexed q (byte x) ≡ stands r → fed (in_mode n q s) (byte x ∷ rest) ≡ fed (in_mode n r s) rest
one_byte n q r s x rest e =
    ap (λ z. fed_on (byte_read (in_mode n q s) (byte x) rest z) (λ r'. fed r' rest)) e ∙ ap (λ z. fed (record { line = z; last = n; mode = r; state = s }) rest) (same_line x n)

abbrev at : Bool → ℕ → Mode
at negative m = mode.Number None (spelling.Signed negative) (signed negative m) false

zero_signed : (negative : Bool) → signed negative 0 ≡ pos 0
zero_signed true = refl
zero_signed false = refl

fed_digits : (ds : Digits) (negative : Bool) (n : ℕ) (s : State) (rest : List ℕ) → number ds ≤ greatest negative → fed (in_mode n (mode.Sign negative) s) (text ds ++ rest) ≡ fed (in_mode n (at negative (number ds)) s) rest
fed_digits (First x) negative n s rest h =
    one_byte n (mode.Sign negative) (at negative (worth x)) s x rest (first_lexed negative x ∙ ap (λ z. number_stands None (spelling.Signed negative) (grown (spelling.Signed negative) z (worth x))) (sym (zero_signed negative)) ∙ ap (number_stands None (spelling.Signed negative)) (grown_is negative 0 (worth x) ∙ ap (signed negative) (let e : 10 * 0 + worth x ≡ worth x = omega arith in e)) ∙ stands_within negative (worth x) h)
fed_digits (More ds x) negative n s rest h =
    let few : number ds ≤ greatest negative = omega arith in
    ap (fed (in_mode n (mode.Sign negative) s)) (append_assoc (text ds) (byte x ∷ []) rest) ∙ fed_digits ds negative n s (byte x ∷ rest) few ∙ one_byte n (at negative (number ds)) (at negative (10 * number ds + worth x)) s x rest (more_lexed negative (signed negative (number ds)) x ∙ ap (number_stands None (spelling.Signed negative)) (grown_is negative (number ds) (worth x)) ∙ stands_within negative (10 * number ds + worth x) h)

abbrev sign : Bool → ℕ
sign true = 45
sign false = 43

sign_fed : (negative : Bool) (n l : ℕ) (s : State) (rest : List ℕ) → fed (clear n l s) (sign negative ∷ rest) ≡ fed (in_mode n (mode.Sign negative) s) rest
sign_fed true n l s rest = refl
sign_fed false n l s rest = refl

prints_signed : (negative : Bool) (ds : Digits) → number ds ≤ greatest negative → Prints (sign negative ∷ text ds) (token.Number (signed negative (number ds)))
prints_signed negative ds h n l s s' rest e =
    sign_fed negative n l s (text ds ++ (32 ∷ rest)) ∙ fed_digits ds negative n s (32 ∷ rest) h ∙ ap (λ z. fed_on (state_read (in_mode n (at negative (number ds)) s) 32 rest (record { ended = Some (token.Number (signed negative (number ds))); own = None; mode = mode.Clear }) (onward z (λ s''. stepped s'' None n))) (λ r'. fed r' rest)) e

-- each number of LINT is printed by some text
pub prints_number : (v : ℤ) → is_within (low_of il.Lint) (high_of il.Lint) v ≡ true → (t : List ℕ) × Prints t (token.Number v)
prints_number (pos m) h = go (digits_of m)
  where
    few : m ≤ 9223372036854775807
    few = grind (arith, ints)

    go : (ds : Digits) × (number ds ≡ m) → (t : List ℕ) × Prints t (token.Number (pos m))
    go (ds, e) = (43 ∷ text ds, subst (λ z. Prints (43 ∷ text ds) (token.Number (pos z))) e (prints_signed false ds (subst (λ z. z ≤ 9223372036854775807) (sym e) few)))
prints_number (negsuc m) h = go (digits_of (suc m))
  where
    few : suc m ≤ 9223372036854775808
    few = grind (arith, ints)

    go : (ds : Digits) × (number ds ≡ suc m) → (t : List ℕ) × Prints t (token.Number (negsuc m))
    go (ds, e) = (45 ∷ text ds, subst (λ z. Prints (45 ∷ text ds) (token.Number (neg_ℤ (pos z)))) e (prints_signed true ds (subst (λ z. z ≤ 9223372036854775808) (sym e) few)))
