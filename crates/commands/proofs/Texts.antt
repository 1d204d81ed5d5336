-- Definitions that are read one by one from the texts that remain.
use Rattle.std.proofs.Common.{◌≡◌, ℕ, ◌+◌, ◌<◌, List, [], ◌∷◌, ◌++◌, length, map, get_or, drop, inl, inr, refl, ap, sym, subst, ◌∙◌, Bor, Result, Ok, Err, IfErr, IsErrAnd}
use Rattle.std.proofs.lemmas.List.{drop_more}
use Rattle.model_defs.specs.declared.fault.DefFault.{DefFault}
use Rattle.model_defs.specs.declared.model.ModelDef.{ModelDef}
use Rattle.model_defs.specs.Definition.{Breaks, IsRead}
use Rattle.model_defs.specs.Laws.{TextsGiveOneModel}
use Rattle.model_defs.specs.Shipped.{shipped_texts}
use Rattle.commands.specs.Defined.{AreDefined, AreRead, IsFirstBroken, IsUndefined, TextsDefineOneList, all_texts}

-- ---- a fault that goes up as it came

pub told_of_fault : {T E : Type 0} (result : Result T E) (came : E) (Holds : E → Type 0) → IsErrAnd result (λ fault. fault ≡ came) → Holds came → IfErr result Holds
told_of_fault (Ok _) came Holds same h = tt
told_of_fault (Err fault) came Holds same h = subst Holds (sym same) h

-- ---- elements that are or have texts, one after another

pub read_more : {T : Type 0} (text_of : T → List ℕ) (xs : List T) (i : ℕ) (x : T) (before models : List ModelDef) (model : ModelDef)
    → i < length xs → x ≡ get_or xs i x → IsRead (text_of x) model → AreRead (map text_of (drop (i + 1) xs)) (before ++ model ∷ []) models → AreRead (map text_of (drop i xs)) before models
read_more text_of xs i x before models model within is read rest = rw (drop_more xs i x within) (rw (← is) (model, read, rest))

pub broken_here : {T : Type 0} (text_of : T → List ℕ) (xs : List T) (i : ℕ) (x : T) (fault : DefFault)
    → i < length xs → x ≡ get_or xs i x → Breaks (text_of x) fault → IsFirstBroken (map text_of (drop i xs)) fault
broken_here text_of xs i x fault within is broken = rw (drop_more xs i x within) (rw (← is) (inl broken))

pub broken_behind : {T : Type 0} (text_of : T → List ℕ) (xs : List T) (i : ℕ) (x : T) (model : ModelDef) (fault : DefFault)
    → i < length xs → x ≡ get_or xs i x → IsRead (text_of x) model → IsFirstBroken (map text_of (drop (i + 1) xs)) fault → IsFirstBroken (map text_of (drop i xs)) fault
broken_behind text_of xs i x model fault within is read broken = rw (drop_more xs i x within) (rw (← is) (inr (model, read, broken)))

-- ---- texts after texts

pub read_both : (xs ys : List (List ℕ)) (a b c : List ModelDef) → AreRead xs a b → AreRead ys b c → AreRead (xs ++ ys) a c
read_both [] ys a b c h k = subst (λ m. AreRead ys m c) h k
read_both (x ∷ xs) ys a b c (model, read, rest) k = (model, read, read_both xs ys (a ++ model ∷ []) b c rest k)

pub broken_front : (xs ys : List (List ℕ)) (fault : DefFault) → IsFirstBroken xs fault → IsFirstBroken (xs ++ ys) fault
broken_front [] ys fault h = absurd h
broken_front (x ∷ xs) ys fault (inl h) = inl h
broken_front (x ∷ xs) ys fault (inr (model, read, rest)) = inr (model, read, broken_front xs ys fault rest)

pub broken_back : (xs ys : List (List ℕ)) (a b : List ModelDef) (fault : DefFault) → AreRead xs a b → IsFirstBroken ys fault → IsFirstBroken (xs ++ ys) fault
broken_back [] ys a b fault h k = k
broken_back (x ∷ xs) ys a b fault (model, read, rest) k = inr (model, read, broken_back xs ys (a ++ model ∷ []) b fault rest k)

-- ---- the shipped texts, and after them others

-- models with their texts, as code has them
abbrev Given : Type 0
Given = List (ℕ × Bor (List ℕ))

-- what is read past the last one
abbrev pub no_text : ℕ × Bor (List ℕ)
no_text = (0, record { ref_ptr = (0, 0); now = [] })

texts_same : (given : Given) → map (λ (model : ℕ × Bor (List ℕ)). (model.0, model.1.now)) given ≡ shipped_texts → map (λ (model : ℕ × Bor (List ℕ)). model.1.now) given ≡ map (λ (model : ℕ × List ℕ). model.1) shipped_texts
texts_same given is = seconds given ∙ ap (map (λ (model : ℕ × List ℕ). model.1)) is
  where
    seconds : (ms : Given) → map (λ (model : ℕ × Bor (List ℕ)). model.1.now) ms ≡ map (λ (model : ℕ × List ℕ). model.1) (map (λ (model : ℕ × Bor (List ℕ)). (model.0, model.1.now)) ms)
    seconds [] = refl
    seconds (m ∷ ms) = ap (λ ts. m.1.now ∷ ts) (seconds ms)

pub by_both : (given : Given) (texts : List (List ℕ)) (none first models : List ModelDef) → map (λ (model : ℕ × Bor (List ℕ)). (model.0, model.1.now)) given ≡ shipped_texts → none ≡ []
    → AreRead (map (λ (model : ℕ × Bor (List ℕ)). model.1.now) given) none first → AreRead texts first models → AreDefined texts models
unfolding all_texts
by_both given texts none first models is empty h k =
    read_both (map (λ (model : ℕ × List ℕ). model.1) shipped_texts) texts [] first models (subst (λ (ms : List ModelDef). AreRead (map (λ (model : ℕ × List ℕ). model.1) shipped_texts) ms first) empty (subst (λ ts. AreRead ts none first) (texts_same given is) h)) k

pub broken_shipped : (given : Given) (texts : List (List ℕ)) (fault : DefFault) → map (λ (model : ℕ × Bor (List ℕ)). (model.0, model.1.now)) given ≡ shipped_texts
    → IsFirstBroken (map (λ (model : ℕ × Bor (List ℕ)). model.1.now) given) fault → IsUndefined texts fault
unfolding all_texts
broken_shipped given texts fault is h = broken_front (map (λ (model : ℕ × List ℕ). model.1) shipped_texts) texts fault (subst (λ ts. IsFirstBroken ts fault) (texts_same given is) h)

pub broken_behind_shipped : (given : Given) (texts : List (List ℕ)) (none first : List ModelDef) (fault : DefFault) → map (λ (model : ℕ × Bor (List ℕ)). (model.0, model.1.now)) given ≡ shipped_texts
    → AreRead (map (λ (model : ℕ × Bor (List ℕ)). model.1.now) given) none first → IsFirstBroken texts fault → IsUndefined texts fault
unfolding all_texts
broken_behind_shipped given texts none first fault is h k = broken_back (map (λ (model : ℕ × List ℕ). model.1) shipped_texts) texts none first fault (subst (λ ts. AreRead ts none first) (texts_same given is) h) k

-- ---- one list at most

same_read : TextsGiveOneModel → (texts : List (List ℕ)) (before a b : List ModelDef) → AreRead texts before a → AreRead texts before b → a ≡ b
same_read one [] before a b h k = h ∙ sym k
same_read one (text ∷ texts) before a b (m, read, rest) (n, other, more) =
    same_read one texts (before ++ n ∷ []) a b (subst (λ (x : ModelDef). AreRead texts (before ++ x ∷ []) a) (one text m n read other) rest) more

pub texts_define_one_list : TextsGiveOneModel → TextsDefineOneList
texts_define_one_list one texts a b h k = same_read one (all_texts texts) [] a b h k
