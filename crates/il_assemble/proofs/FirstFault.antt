-- The walk over the lines tells the fault of the first instruction that has one.
use Rattle.std.proofs.Common.{◌≡◌, ◌⊎◌, ◌↔◌, inl, inr, ⊎_elim, ℕ, ◌≤◌, if◌then◌else◌, List, [], ◌∷◌, ◌++◌, None, Result, Ok, Err, nat_eq, refl, sym, ap, ◌∙◌, subst, arith}
use Rattle.std.specs.List.{Contains}
use Rattle.std.proofs.lemmas.List.Elements.{Contains-append_left, Contains-append_right}
use Rattle.point_types.specs.Value.{◌>>=◌}
use Rattle.il_assemble.specs.declared.fault.AsmFault.{AsmFault}
use Rattle.il_assemble.specs.declared.fault.AsmFaultKind.{AsmFaultKind}
use Rattle.il_assemble.specs.declared.fault.AsmFaultKind.TheVariants as kind
use Rattle.il_assemble.specs.Elaboration.{counted, elaborated, named_apart, names_seen, program_of, scope_of, undivided}
use Rattle.il_assemble.specs.Faulty.{HasFault, HasNoFault, IsFaultOf, IsFirstFault, HasNoStaticFault, IsStaticFault, StaticFaultsAreTold, TheFirstFaultIsTold, all_uses, lengthy, limited, text_scope}
use Rattle.il_assemble.specs.Instructions.{Standing, of_lines}
use Rattle.il_assemble.specs.Meaning.{Program}
use Rattle.il_assemble.specs.Names.{Scope, uses_of}
use Rattle.il_assemble.specs.StaticFault.{checked_lines, number_of}
use Rattle.il_assemble.proofs.FaultsHold.{FirstIn, Meets, NoneIn, told_meets}
use Rattle.il_assemble.proofs.FirstUses.{at_head, first_is_noted, in_none, in_tail}
use Rattle.il_assemble.proofs.Listing.{Chain, chain_listed, listed, listed_actions, lines_told, told}
use Rattle.il_assemble.proofs.Stands.{earlier_is_front, front_is_earlier, listed_stands, split_at, stands_listed}

-- A kind by its number.

kind_of : ℕ → AsmFaultKind
kind_of n =
    if nat_eq n 1 then kind.UnknownName
    else if nat_eq n 2 then kind.UnknownLabel
    else if nat_eq n 3 then kind.BackwardJump
    else if nat_eq n 4 then kind.LoadAndStore
    else if nat_eq n 5 then kind.LiteralType
    else if nat_eq n 6 then kind.TooLong
    else if nat_eq n 7 then kind.OutOfMemory
    else kind.ForwardLoop

kind_back : (k : AsmFaultKind) → kind_of (number_of k) ≡ k
unfolding kind_of
kind_back kind.UnknownName = refl
kind_back kind.UnknownLabel = refl
kind_back kind.BackwardJump = refl
kind_back kind.LoadAndStore = refl
kind_back kind.LiteralType = refl
kind_back kind.TooLong = refl
kind_back kind.OutOfMemory = refl
kind_back kind.ForwardLoop = refl

-- an instruction has one lowest fault
one_fault : (g : Scope) (x : Standing) (j k : AsmFaultKind) → IsFaultOf g x j → IsFaultOf g x k → j ≡ k
one_fault g x j k h i =
    let one : number_of j ≤ number_of k = h.1 k i.0 in
    let other : number_of k ≤ number_of j = i.1 j h.0 in
    let same : number_of j ≡ number_of k = omega (arith, one, other) in
    sym (kind_back j) ∙ ap kind_of same ∙ kind_back k

-- In a list.

heads : {X : Type 0} {x y : X} {xs ys : List X} → x ∷ xs ≡ y ∷ ys → x ≡ y
heads e = cc

tails : {X : Type 0} {x y : X} {xs ys : List X} → x ∷ xs ≡ y ∷ ys → xs ≡ ys
tails e = cc

-- the first instruction that has a fault is one
one_first : (g : Scope) (front last behind after : List Standing) (x y : Standing) (j k : AsmFaultKind) → front ++ x ∷ behind ≡ last ++ y ∷ after → NoneIn g front → NoneIn g last → HasFault g x j → HasFault g y k → x ≡ y
one_first g [] [] behind after x y j k e h i p q = heads e
one_first g [] (z ∷ last) behind after x y j k e h i p q = absurd (i x (subst (λ v. Contains (z ∷ last) v) (sym (heads e)) (at_head z last)) j p)
one_first g (z ∷ front) [] behind after x y j k e h i p q = absurd (h y (subst (λ v. Contains (z ∷ front) v) (heads e) (at_head z front)) k q)
one_first g (z ∷ front) (v ∷ last) behind after x y j k e h i p q =
    one_first g front last behind after x y j k (tails e) (λ w c. h w (in_tail z w front c)) (λ w c. i w (in_tail v w last c)) p q

abbrev fault_at : ℕ → AsmFaultKind → AsmFault
fault_at line k = record { line = line; kind = k }

same_fault : (f e : AsmFault) → f.line ≡ e.line → f.kind ≡ e.kind → f ≡ e
same_fault f e l k = ap (λ z. fault_at z f.kind) l ∙ ap (fault_at e.line) k

one_told : (g : Scope) (xs : List Standing) (f e : AsmFault) → FirstIn g xs f → FirstIn g xs e → f ≡ e
one_told g xs f e h i =
    let same : h.2 ≡ i.2 = one_first g h.0 i.0 h.1 i.1 h.2 i.2 f.kind e.kind (sym h.3 ∙ i.3) h.4 i.4 h.6.0 i.6.0 in
    same_fault f e (h.5 ∙ ap (λ (z : Standing). z.line) same ∙ sym i.5) (one_fault g i.2 f.kind e.kind (subst (λ z. IsFaultOf g z f.kind) same h.6) i.6)

not_both : (g : Scope) (xs : List Standing) (f : AsmFault) → NoneIn g xs → FirstIn g xs f → ⊥
not_both g xs f h i = h i.2 (subst (λ z. Contains z i.2) (sym i.3) (Contains-append_right i.0 (i.2 ∷ i.1) i.2 (at_head i.2 i.1))) f.kind i.6.0

tells : (g : Scope) (xs : List Standing) (r : Result (Unit {0}) AsmFault) (f : AsmFault) → Meets g xs r → FirstIn g xs f → r ≡ Err f
tells g xs (Ok u) f m h = absurd (not_both g xs f m h)
tells g xs (Err e) f m h = ap Err (one_told g xs e f m h)

tells_none : (g : Scope) (xs : List Standing) (r : Result (Unit {0}) AsmFault) → Meets g xs r → NoneIn g xs → r ≡ Ok tt
tells_none g xs (Ok u) m h = refl
tells_none g xs (Err e) m h = absurd (not_both g xs e h m)

-- In a program.

abbrev all_listed : Scope → List Standing
all_listed g = listed g 0 [] None g.statements

first_stands : (g : Scope) (f : AsmFault) → FirstIn g (all_listed g) f → IsFirstFault g f
first_stands g f h =
    let chain = subst (Chain []) h.3 (chain_listed g 0 [] None g.statements) in
    let there = subst (λ z. Contains z h.2) (sym h.3) (Contains-append_right h.0 (h.2 ∷ h.1) h.2 (at_head h.2 h.1)) in
    (h.2, listed_stands g h.2 there, h.5, h.6, λ y s l. h.4 y (earlier_is_front [] h.0 h.1 h.2 y chain (subst (λ z. Contains z y) h.3 (stands_listed g y s)) l))

first_listed : (g : Scope) (f : AsmFault) → IsFirstFault g f → FirstIn g (all_listed g) f
first_listed g f h =
    let at = split_at (all_listed g) h.0 (stands_listed g h.0 h.1) in
    let chain = subst (Chain []) at.2 (chain_listed g 0 [] None g.statements) in
    (at.0, at.1, h.0, at.2, λ y c. h.4 y (listed_stands g y (subst (λ z. Contains z y) (sym at.2) (Contains-append_left at.0 (h.0 ∷ at.1) y c))) (front_is_earlier [] at.0 at.1 h.0 y chain c), h.2, h.3)

pub the_first_fault_is_told : TheFirstFaultIsTold
the_first_fault_is_told t = (λ f. (to f, from f), (none_to, none_from))
  where
    walk : checked_lines (scope_of t) 0 None t.statements ≡ told (scope_of t) (all_listed (text_scope t))
    walk = lines_told (text_scope t) (uses_of t.variables t.externals t.statements) 0 [] None t.statements

    met : Meets (text_scope t) (all_listed (text_scope t)) (told (scope_of t) (all_listed (text_scope t)))
    met = told_meets (scope_of t) (all_uses (text_scope t) (of_lines t.statements)) (first_is_noted t) (all_listed (text_scope t)) [] (chain_listed (text_scope t) 0 [] None t.statements) (ap (all_uses (text_scope t)) (sym (listed_actions (text_scope t) 0 [] None t.statements))) (λ u c. absurd (in_none u c))

    to : (f : AsmFault) → checked_lines (scope_of t) 0 None t.statements ≡ Err f → IsFirstFault (text_scope t) f
    to f e = first_stands (text_scope t) f (subst (Meets (text_scope t) (all_listed (text_scope t))) (sym walk ∙ e) met)

    from : (f : AsmFault) → IsFirstFault (text_scope t) f → checked_lines (scope_of t) 0 None t.statements ≡ Err f
    from f h = walk ∙ tells (text_scope t) (all_listed (text_scope t)) (told (scope_of t) (all_listed (text_scope t))) f met (first_listed (text_scope t) f h)

    none_to : checked_lines (scope_of t) 0 None t.statements ≡ Ok tt → HasNoFault (text_scope t)
    none_to e x s = subst (Meets (text_scope t) (all_listed (text_scope t))) (sym walk ∙ e) met x (stands_listed (text_scope t) x s)

    none_from : HasNoFault (text_scope t) → checked_lines (scope_of t) 0 None t.statements ≡ Ok tt
    none_from h = walk ∙ tells_none (text_scope t) (all_listed (text_scope t)) (told (scope_of t) (all_listed (text_scope t))) met (λ x c. h x (listed_stands (text_scope t) x c))

-- The limits that texts keep first, and the length of the code last.

in_three : {X : Type 0} (a b c : Result (Unit {0}) AsmFault) (d : Result X AsmFault) → (a >>= λ _. b >>= λ _. c >>= λ _. d) ≡ ((a >>= λ _. b >>= λ _. c) >>= λ _. d)
in_three (Err e) b c d = refl
in_three (Ok u) (Err e) c d = refl
in_three (Ok u) (Ok v) c d = refl

abbrev Refusing : Result (Unit {0}) AsmFault → Result (Unit {0}) AsmFault → Result (Unit {0}) AsmFault → AsmFault → Type 0
Refusing a b c f = (a ≡ Err f) ⊎ ((a ≡ Ok tt) × ((b ≡ Err f) ⊎ ((b ≡ Ok tt) × (c ≡ Err f))))

refused_by : (a b c : Result (Unit {0}) AsmFault) (p : Program) (f : AsmFault) → (a >>= λ _. b >>= λ _. c >>= λ _. Ok p) ≡ Err f → Refusing a b c f
refused_by (Err e) b c p f h = let same : e ≡ f = cc in inl (ap Err same)
refused_by (Ok u) (Err e) c p f h = let same : e ≡ f = cc in inr (refl, inl (ap Err same))
refused_by (Ok u) (Ok v) (Err e) p f h = let same : e ≡ f = cc in inr (refl, inr (refl, ap Err same))
refused_by (Ok u) (Ok v) (Ok w) p f h = cc

refuses : (a b c : Result (Unit {0}) AsmFault) (p : Program) (f : AsmFault) → Refusing a b c f → (a >>= λ _. b >>= λ _. c >>= λ _. Ok p) ≡ Err f
refuses a b c p f (inl h) = ap (λ z. z >>= λ _. b >>= λ _. c >>= λ _. Ok p) h
refuses a b c p f (inr (h, inl k)) = ap (λ z. z >>= λ _. b >>= λ _. c >>= λ _. Ok p) h ∙ ap (λ z. z >>= λ _. c >>= λ _. Ok p) k
refuses a b c p f (inr (h, inr k)) = ap (λ z. z >>= λ _. b >>= λ _. c >>= λ _. Ok p) h ∙ ap (λ z. z >>= λ _. c >>= λ _. Ok p) k.0 ∙ ap (λ z. z >>= λ _. Ok p) k.1

passed_by : (a b c : Result (Unit {0}) AsmFault) (p : Program) → (a >>= λ _. b >>= λ _. c >>= λ _. Ok p) ≡ Ok p → (a ≡ Ok tt) × (b ≡ Ok tt) × (c ≡ Ok tt)
passed_by (Err e) b c p h = cc
passed_by (Ok u) (Err e) c p h = cc
passed_by (Ok u) (Ok v) (Err e) p h = cc
passed_by (Ok u) (Ok v) (Ok w) p h = (refl, refl, refl)

pub static_faults_are_told : StaticFaultsAreTold
static_faults_are_told t = (λ f. (to f, from f), (none_to, none_from))
  where
    first : ((f : AsmFault) → (checked_lines (scope_of t) 0 None t.statements ≡ Err f) ↔ IsFirstFault (text_scope t) f) × ((checked_lines (scope_of t) 0 None t.statements ≡ Ok tt) ↔ HasNoFault (text_scope t))
    first = the_first_fault_is_told t

    parts : elaborated t ≡ (limited t >>= λ _. checked_lines (scope_of t) 0 None t.statements >>= λ _. lengthy t >>= λ _. Ok (program_of (scope_of t)))
    parts = in_three (counted t.variables t.externals t.statements) (undivided t.variables) (named_apart t.variables t.externals (names_seen (scope_of t))) (checked_lines (scope_of t) 0 None t.statements >>= λ _. lengthy t >>= λ _. Ok (program_of (scope_of t)))

    to : (f : AsmFault) → elaborated t ≡ Err f → IsStaticFault t f
    to f e =
        ⊎_elim inl
        (λ h. inr (h.0, ⊎_elim (λ k. inl ((first.0 f).0 k)) (λ k. inr (first.1.0 k.0, k.1)) h.1))
        (refused_by (limited t) (checked_lines (scope_of t) 0 None t.statements) (lengthy t) (program_of (scope_of t)) f (sym parts ∙ e))

    from : (f : AsmFault) → IsStaticFault t f → elaborated t ≡ Err f
    from f h =
        parts
        ∙ refuses (limited t) (checked_lines (scope_of t) 0 None t.statements) (lengthy t) (program_of (scope_of t)) f
        (⊎_elim inl (λ k. inr (k.0, ⊎_elim (λ l. inl ((first.0 f).1 l)) (λ l. inr (first.1.1 l.0, l.1)) k.1)) h)

    none_to : elaborated t ≡ Ok (program_of (scope_of t)) → HasNoStaticFault t
    none_to e =
        let h = passed_by (limited t) (checked_lines (scope_of t) 0 None t.statements) (lengthy t) (program_of (scope_of t)) (sym parts ∙ e) in
        (h.0, first.1.0 h.1, h.2)

    none_from : HasNoStaticFault t → elaborated t ≡ Ok (program_of (scope_of t))
    none_from h =
        parts
        ∙ ap (λ z. z >>= λ _. checked_lines (scope_of t) 0 None t.statements >>= λ _. lengthy t >>= λ _. Ok (program_of (scope_of t))) h.0
        ∙ ap (λ z. z >>= λ _. lengthy t >>= λ _. Ok (program_of (scope_of t))) (first.1.1 h.1)
        ∙ ap (λ z. z >>= λ _. Ok (program_of (scope_of t))) h.2
