-- The budget: no run takes more steps than the longest path.
use Rattle.std.proofs.Common.{◌≡◌, ℕ, zero, suc, ◌+◌, ◌-◌, max, ◌<◌, ◌≤◌, ◌⊎◌, inl, inr, List, [], ◌∷◌, length, replicate, slice_set, ◌*◌, Option, Some, None, option_map, slice_get, Bool, true, false, ◌||◌, nat_eq, if◌then◌else◌, refl, sym, ap, subst, ◌∙◌, arith}
use Rattle.std.proofs.Math.Nat.{mul-le-mul_left}
use Rattle.std.proofs.lemmas.List.{length-replicate}
use Rattle.std.proofs.lemmas.Option.{slice_get-map}
use Rattle.point_types.specs.declared.operator.Condition.{Condition}
use Rattle.point_types.specs.declared.operator.Condition.TheVariants as when
use Rattle.point_types.specs.declared.reading.Reading.{Reading}
use Rattle.scan_code.specs.Image.{Image}
use Rattle.scan_code.specs.declared.op.Op.{Op}
use Rattle.scan_code.specs.declared.op.Op.TheVariants as does
use Rattle.scan_code.specs.Machine.{State, Step, Goes, Ends, Traps, step, after_step, run}
use Rattle.facts.specs.Flow.{Context, Way, number_at}
use Rattle.facts.specs.Slots.{Slot, slots, is_reached, is_loop_head}
use Rattle.verifier.specs.Verdict.{refusal_of}
use Rattle.verifier.specs.Budget.{Length, longer, one_more, length_at, length_of, length_from, lengths_from, count_of, is_start, greatest_from, total_count, reached, path_lengths, longest_path, budget, IsLast, Follows, IsReachedAs, IsPath, NoPathIsLonger, longest_of}
use Rattle.verifier.specs.Sound.{EndsWithin}
use Rattle.verifier.proofs.Made.{IsMadeFrom, AreLoaded}
use Rattle.facts.proofs.Lists.{get_within, by_same, get_set_same, get_set_other}
use Rattle.verifier.proofs.Listings.{head_is, lt_yes, whole_stands}
use Rattle.verifier.proofs.Endings.{NeverEnds, goes_on}
use Rattle.verifier.proofs.Steps.{AnyWay, IsHead}
use Rattle.verifier.proofs.Arriving.{slots_have}
use Rattle.facts.proofs.Leads.{Leads, AllWays, flow_leads}
use Rattle.verifier.proofs.Run.{At, Advances, step_advances, flows_on, head_found}

abbrev value_or_zero : Option ℕ → ℕ
value_or_zero None = 0
value_or_zero (Some l) = l

-- the length at an instruction that is reached, and those of the later ones
length_there : (c : List (ℕ × Op)) (at n : ℕ) (ss : List Bool) (es : List (ℕ × Op)) (e : ℕ × Op) → slice_get ss n ≡ Some true → slice_get es n ≡ Some e → (later : List Length) × (length_at (lengths_from c at ss es) n ≡ length_from c (at + n) e.1 later) × ((j : ℕ) → length_at later j ≡ length_at (lengths_from c at ss es) (suc n + j))
length_there c at n [] es e p q = absurd (cc)
length_there c at n (x ∷ ss) [] e p q = absurd (cc)
length_there c at zero (x ∷ ss) (y ∷ es) e p q =
    let reached : x ≡ true = cc in let g : y ≡ e = cc in
    let n : at ≡ at + 0 = omega arith in
    (lengths_from c (at + 1) ss es, rw (reached, ← n, ← g) refl, λ j. let k : suc 0 + j ≡ suc j = omega arith in rw k refl)
length_there c at (suc n) (x ∷ ss) (y ∷ es) e p q =
    let h = length_there c (at + 1) n ss es e p q in
    let k : at + 1 + n ≡ at + suc n = omega arith in (
      h.0,
      subst (λ (m : ℕ). length_at (lengths_from c (at + 1) ss es) n ≡ length_from c m e.1 h.0) k h.1,
      λ j. let l : suc (suc n) + j ≡ suc (suc n + j) = omega arith in rw l (h.2 j),
    )

-- the longest path from an instruction
abbrev pub path : Context → ℕ → Length
path c m = length_at (path_lengths c) m

abbrev pub path_in : List (ℕ × Op) → List Bool → ℕ → Length
path_in es rs m = length_at (lengths_from es 0 rs es) m

-- no path is as long as one that goes on along it
abbrev pub IsShorter : Length → Length → Type 0
IsShorter (Some p) None = ⊥
IsShorter (Some p) (Some q) = p < q
IsShorter None q = Unit {0}

more : (p q : Length) → p ≡ q → IsShorter p (one_more q)
more None q e = tt
more (Some p) None e = absurd (cc)
more (Some p) (Some q) e = let f : p ≡ q = head_is p q e in omega arith

more_left : (p q r : Length) → p ≡ q → IsShorter p (one_more (longer q r))
more_left None q r e = tt
more_left (Some p) None r e = absurd (cc)
more_left (Some p) (Some q) None e = let f : p ≡ q = head_is p q e in omega arith
more_left (Some p) (Some q) (Some r) e = let f : p ≡ q = head_is p q e in omega arith

more_right : (p q r : Length) → p ≡ r → IsShorter p (one_more (longer q r))
more_right None q r e = tt
more_right (Some p) q None e = absurd (cc)
more_right (Some p) None (Some r) e = let f : p ≡ r = head_is p r e in omega arith
more_right (Some p) (Some q) (Some r) e = let f : p ≡ r = head_is p r e in omega arith

more_or_end : (p q : Length) → p ≡ q → IsShorter p (longer (Some 1) (one_more q))
more_or_end None q e = tt
more_or_end (Some p) None e = absurd (cc)
more_or_end (Some p) (Some q) e = let f : p ≡ q = head_is p q e in omega arith

aimed : (later : List Length) (n m : ℕ) → n < m → length_of later n (Some m) ≡ length_at later (m - n - 1)
aimed later n m h = let t = lt_yes n m h in rw t refl

module _ (es : List (ℕ × Op)) (rs : List Bool) where
  next_path : (n m : ℕ) (later : List Length) → ((j : ℕ) → length_at later j ≡ path_in es rs (suc n + j)) → m ≡ n + 1 → path_in es rs m ≡ length_at later 0
  next_path n m later those e = let k : m ≡ suc n + 0 = omega arith in ap (path_in es rs) k ∙ sym (those 0)

  target_path : (n m to : ℕ) (later : List Length) → ((j : ℕ) → length_at later j ≡ path_in es rs (suc n + j)) → n < m → number_at es 0 to ≡ Some m → path_in es rs m ≡ length_of later n (number_at es 0 to)
  target_path n m to later those h e =
      let k : m ≡ suc n + (m - n - 1) = omega arith in
      ap (path_in es rs) k ∙ sym (those (m - n - 1)) ∙ sym (aimed later n m h) ∙ sym (ap (length_of later n) e)

  -- a path goes on by at least one
  path_on : (n m : ℕ) (i : Op) (later : List Length) → ((j : ℕ) → length_at later j ≡ path_in es rs (suc n + j)) → Follows es n i m → IsShorter (path_in es rs m) (length_from es n i later)
  path_on n m does.End later those l = absurd l
  path_on n m (does.Return when.Always) later those l = absurd l
  path_on n m (does.Return when.IfTrue) later those l = more_or_end (path_in es rs m) _ (next_path n m later those l)
  path_on n m (does.Return when.IfFalse) later those l = more_or_end (path_in es rs m) _ (next_path n m later those l)
  path_on n m (does.Jump when.Always to) later those l = more (path_in es rs m) _ (target_path n m to later those l.0 l.1)
  path_on n m (does.Jump when.IfTrue to) later those (inl l) = more_left (path_in es rs m) _ _ (next_path n m later those l)
  path_on n m (does.Jump when.IfTrue to) later those (inr l) = more_right (path_in es rs m) _ _ (target_path n m to later those l.0 l.1)
  path_on n m (does.Jump when.IfFalse to) later those (inl l) = more_left (path_in es rs m) _ _ (next_path n m later those l)
  path_on n m (does.Jump when.IfFalse to) later those (inr l) = more_right (path_in es rs m) _ _ (target_path n m to later those l.0 l.1)
  path_on n m other later those l = more (path_in es rs m) _ (next_path n m later those l)

-- where flow leads, an instruction follows
leads_follow : (c : Context) (n m : ℕ) (i : Op) → n < m → Leads c n i m → Follows c.listing n i m
leads_follow c n m does.End h l = absurd l
leads_follow c n m (does.Return when.Always) h l = absurd l
leads_follow c n m (does.Jump when.Always to) h l = (h, l)
leads_follow c n m (does.Jump when.IfTrue to) h (inl l) = inl l
leads_follow c n m (does.Jump when.IfTrue to) h (inr l) = inr (h, l)
leads_follow c n m (does.Jump when.IfFalse to) h (inl l) = inl l
leads_follow c n m (does.Jump when.IfFalse to) h (inr l) = inr (h, l)
leads_follow c n m other h l = l

-- no path from a start is longer than the longest one
greatest_over : (c : List (ℕ × Op)) (n i : ℕ) (ls : List Length) (es : List (ℕ × Op)) (e : ℕ × Op) → slice_get es i ≡ Some e → is_start c (n + i) e ≡ true → count_of (length_at ls i) ≤ greatest_from c n ls es
greatest_over c n i [] es e p t = omega arith
greatest_over c n i (l ∷ ls) [] e p t = absurd (cc)
greatest_over c n zero (l ∷ ls) (x ∷ es) e p t =
    let k : n + 0 ≡ n = omega arith in
    let here : is_start c n x ≡ true = subst (λ (y : ℕ × Op). is_start c n y ≡ true) (sym (head_is x e p)) (subst (λ (m : ℕ). is_start c m e ≡ true) k t) in
    rw here (omega arith)
greatest_over c n (suc i) (l ∷ ls) (x ∷ es) e p t =
    let k : n + suc i ≡ n + 1 + i = omega arith in
    let h = greatest_over c (n + 1) i ls es e p (subst (λ (m : ℕ). is_start c m e ≡ true) k t) in
    under (if is_start c n x then count_of l else 0) _ _ h
  where
    under : (a b m : ℕ) → m ≤ b → m ≤ max a b
    under a b m h = omega arith

head_starts : (c : List (ℕ × Op)) (n : ℕ) (e : ℕ × Op) → is_loop_head e.0 c ≡ true → is_start c n e ≡ true
head_starts c n e h = either (nat_eq n 0) _ h
  where
    either : (s t : Bool) → t ≡ true → s || t ≡ true
    either true t e = refl
    either false t e = e

-- how often counted jumps can still be taken
abbrev jumps_left : List (ℕ × Op) → List ℕ → ℕ
jumps_left [] taken = 0
jumps_left ((at, does.Repeat condition k n to) ∷ rest) taken = (n - value_or_zero (slice_get taken k)) + jumps_left rest taken
jumps_left ((at, other) ∷ rest) taken = jumps_left rest taken

all_left : (es : List (ℕ × Op)) (counters : ℕ) → jumps_left es (replicate counters 0) ≤ total_count es
all_left [] counters = omega arith
all_left ((at, does.Repeat condition k n to) ∷ rest) counters = let h = all_left rest counters in omega arith
all_left ((at, other) ∷ rest) counters = all_left rest counters

-- a counter that grows
grown : (taken : List ℕ) (k m j : ℕ) → slice_get taken k ≡ Some m → value_or_zero (slice_get taken j) ≤ value_or_zero (slice_get (slice_set taken k (m + 1)) j)
grown taken k m j e = by_same {P = value_or_zero (slice_get taken j) ≤ value_or_zero (slice_get (slice_set taken k (m + 1)) j)} j k
    (λ same. subst (λ (i : ℕ). value_or_zero (slice_get taken i) ≤ value_or_zero (slice_get (slice_set taken k (m + 1)) i)) (sym same)
    (let new = get_set_same taken k (m + 1) (get_within taken k m e) in omega (arith, ap value_or_zero e, ap value_or_zero new)))
    (λ other. omega (arith, ap value_or_zero (get_set_other taken k j (m + 1) other)))

left_fewer : (es : List (ℕ × Op)) (taken : List ℕ) (k m : ℕ) → slice_get taken k ≡ Some m → jumps_left es (slice_set taken k (m + 1)) ≤ jumps_left es taken
left_fewer [] taken k m e = omega arith
left_fewer ((at, does.Repeat condition j n to) ∷ rest) taken k m e = let h = left_fewer rest taken k m e in let g = grown taken k m j e in omega arith
left_fewer ((at, other) ∷ rest) taken k m e = left_fewer rest taken k m e

jump_taken : (es : List (ℕ × Op)) (at here k limit to : ℕ) (condition : Condition) (taken : List ℕ) (m : ℕ) → slice_get es at ≡ Some (here, does.Repeat condition k limit to) → slice_get taken k ≡ Some m → m < limit → jumps_left es (slice_set taken k (m + 1)) < jumps_left es taken
jump_taken [] at here k limit to condition taken m e f l = absurd (cc)
jump_taken (x ∷ es) zero here k limit to condition taken m e f l =
    let new = get_set_same taken k (m + 1) (get_within taken k m f) in
    let fewer = left_fewer es taken k m f in
    subst (λ (y : ℕ × Op). jumps_left (y ∷ es) (slice_set taken k (m + 1)) < jumps_left (y ∷ es) taken) (sym (head_is x (here, does.Repeat condition k limit to) e))
    (omega (arith, ap value_or_zero f, ap value_or_zero new))
jump_taken ((a, does.Repeat c j n t) ∷ es) (suc at) here k limit to condition taken m e f l = let h = jump_taken es at here k limit to condition taken m e f l in let g = grown taken k m j f in omega arith
jump_taken ((a, other) ∷ es) (suc at) here k limit to condition taken m e f l = jump_taken es at here k limit to condition taken m e f l

all_picked : (ways : List Way) (P : ℕ → Type 0) (m : ℕ) → AllWays ways P → AnyWay ways (λ w. w.0 ≡ m) → P m
all_picked [] P m h k = absurd k
all_picked (w ∷ ways) P m h (inl k) = subst P k h.0
all_picked (w ∷ ways) P m h (inr k) = all_picked ways P m h.1 k

limit_within : (es : List (ℕ × Op)) (at here k limit to : ℕ) (condition : Condition) → slice_get es at ≡ Some (here, does.Repeat condition k limit to) → limit ≤ total_count es
limit_within [] at here k limit to condition e = absurd (cc)
limit_within (x ∷ es) zero here k limit to condition e =
    subst (λ (y : ℕ × Op). limit ≤ total_count (y ∷ es)) (sym (head_is x (here, does.Repeat condition k limit to) e)) (omega arith)
limit_within ((a, does.Repeat c j n t) ∷ es) (suc at) here k limit to condition e = let h = limit_within es at here k limit to condition e in omega arith
limit_within ((a, other) ∷ es) (suc at) here k limit to condition e = limit_within es at here k limit to condition e

repeated_is : (n x i y : ℕ) → slice_get (replicate n x) i ≡ Some y → x ≡ y
repeated_is zero x i y e = absurd (cc)
repeated_is (suc n) x zero y e = head_is x y e
repeated_is (suc n) x (suc i) y e = repeated_is n x i y e

ending_or_not : (i : Op) → IsLast i ⊎ (IsLast i → ⊥)
ending_or_not does.End = inl tt
ending_or_not (does.Return condition) = inl tt
ending_or_not other = inr (λ h. h)

some_more : (q : Length) (p : ℕ) → one_more q ≡ Some p → 0 < p
some_more None p e = absurd (cc)
some_more (Some q) p e = let f : 1 + q ≡ p = head_is (1 + q) p e in omega arith

some_end : (q : Length) (p : ℕ) → longer (Some 1) q ≡ Some p → 0 < p
some_end None p e = let f : 1 ≡ p = head_is 1 p e in omega arith
some_end (Some q) p e = let f : max 1 q ≡ p = head_is (max 1 q) p e in omega arith

-- a path has an instruction at least
some_path : (c : List (ℕ × Op)) (n : ℕ) (i : Op) (later : List Length) (p : ℕ) → length_from c n i later ≡ Some p → 0 < p
some_path c n does.End later p e = let f : 1 ≡ p = head_is 1 p e in omega arith
some_path c n (does.Return when.Always) later p e = let f : 1 ≡ p = head_is 1 p e in omega arith
some_path c n (does.Return when.IfTrue) later p e = some_end _ p e
some_path c n (does.Return when.IfFalse) later p e = some_end _ p e
some_path c n (does.Jump when.Always to) later p e = some_more _ p e
some_path c n (does.Jump when.IfTrue to) later p e = some_more _ p e
some_path c n (does.Jump when.IfFalse to) later p e = some_more _ p e
some_path c n other later p e = some_more _ p e

shorter_count : (l k : Length) (p q : ℕ) → l ≡ Some p → k ≡ Some q → IsShorter l k → p < q
shorter_count None k p q e f h = absurd (cc)
shorter_count (Some l) None p q e f h = absurd (cc)
shorter_count (Some l) (Some k) p q e f h = let x : l ≡ p = head_is l p e in let y : k ≡ q = head_is k q f in omega arith

-- Paths as lists of numbers.

-- the length at a reached instruction, and those of the later ones
pub length_as : (es : List (ℕ × Op)) (rs : List Bool) (n : ℕ) (P : Op → Type 0) (x : IsReachedAs es rs n P) → (later : List Length) × (path_in es rs n ≡ length_from es n x.entry.1 later) × ((j : ℕ) → length_at later j ≡ path_in es rs (suc n + j))
length_as es rs n P x =
    let l = length_there es 0 n rs es x.entry x.flagged x.listed in
    let z : 0 + n ≡ n = omega arith in
    (l.0, subst (λ (k : ℕ). path_in es rs n ≡ length_from es k x.entry.1 l.0) z l.1, l.2)

last_length : (es : List (ℕ × Op)) (n : ℕ) (i : Op) (later : List Length) → IsLast i → (p : ℕ) × (length_from es n i later ≡ Some p)
last_length es n does.End later h = (1, refl)
last_length es n (does.Return when.Always) later h = (1, refl)
last_length es n (does.Return when.IfTrue) later h = at_least (one_more (length_at later 0))
  where
    at_least : (q : Length) → (p : ℕ) × (longer (Some 1) q ≡ Some p)
    at_least None = (1, refl)
    at_least (Some q) = (max 1 q, refl)
last_length es n (does.Return when.IfFalse) later h = at_least (one_more (length_at later 0))
  where
    at_least : (q : Length) → (p : ℕ) × (longer (Some 1) q ≡ Some p)
    at_least None = (1, refl)
    at_least (Some q) = (max 1 q, refl)
last_length es n other later h = absurd h

longer_than : (l k : Length) (p : ℕ) → IsShorter l k → l ≡ Some p → (q : ℕ) × (k ≡ Some q) × (p < q)
longer_than None k p h e = absurd (cc)
longer_than (Some l) None p h e = absurd h
longer_than (Some l) (Some k) p h e = let f : l ≡ p = head_is l p e in (k, refl, omega arith)

-- a path is no longer than the length at its first instruction
path_counts : (es : List (ℕ × Op)) (rs : List Bool) (n : ℕ) (rest : List ℕ) → IsPath es rs (n ∷ rest) → (p : ℕ) × (path_in es rs n ≡ Some p) × (length (n ∷ rest) ≤ p)
path_counts es rs n [] h =
    let l = length_as es rs n IsLast h in
    let p = last_length es n h.entry.1 l.0 h.stands in
    let some = some_path es n h.entry.1 l.0 p.0 p.1 in
    (p.0, l.1 ∙ p.1, omega arith)
path_counts es rs n (m ∷ rest) (x, h) =
    let l = length_as es rs n (λ i. Follows es n i m) x in
    let later = path_counts es rs m rest h in
    let less = subst (λ (k : Length). IsShorter (path_in es rs m) k) (sym l.1) (path_on es rs n m x.entry.1 l.0 l.2 x.stands) in
    let q = longer_than (path_in es rs m) (path_in es rs n) later.0 less later.1 in
    (q.0, q.1, omega (arith, q.2, later.2))

pub no_path_is_longer : NoPathIsLonger
no_path_is_longer es rs path h from =
    let begun = subst (λ (ns : List ℕ). IsPath es rs ns) from.begins h in
    let p = path_counts es rs from.number from.rest begun in
    let most : count_of (path_in es rs from.number) ≤ longest_of es rs = greatest_over es 0 from.number (lengths_from es 0 rs es) es from.entry from.listed (subst (λ (i : ℕ). is_start es i from.entry ≡ true) (omega arith) from.starts) in
    let long : length path ≡ length (from.number ∷ from.rest) = ap (λ (ns : List ℕ). length ns) from.begins in
    omega (arith, most, long, p.2, ap count_of p.1)

module _ (image : Image) (counters : ℕ) (c : Context) (made : IsMadeFrom image counters c) (accepted : refusal_of c ≡ None) (rs : List Reading) (readings : AreLoaded c rs) where
  -- the path at a state's instruction
  path_at : (n : ℕ) (s : State) (a : At image counters c made accepted rs readings n s) → (later : List Length) × (path c n ≡ length_from c.listing n a.instruction later) × ((j : ℕ) → length_at later j ≡ length_at (path_lengths c) (suc n + j))
  path_at n s a =
      let have = slots_have c rs (length c.listing) n (get_within c.listing n (s.address, a.instruction) a.listed) in
      let flag : slice_get (reached c) n ≡ Some true = slice_get-map is_reached (slots c (length c.listing)) n ∙ ap (option_map is_reached) have ∙ ap (λ (x : Slot). Some (is_reached x)) a.holds.slot in
      let l = length_there c.listing 0 n (reached c) c.listing (s.address, a.instruction) flag a.listed in
      let z : 0 + n ≡ n = omega arith in
      (l.0, subst (λ (k : ℕ). length_at (path_lengths c) n ≡ length_from c.listing k a.instruction l.0) z l.1, l.2)

  shorter : (n m : ℕ) (s : State) (a : At image counters c made accepted rs readings n s) → n < m → AnyWay a.holds.ways (λ w. w.0 ≡ m) → IsShorter (path c m) (path c n)
  shorter n m s a l w =
      let p = path_at n s a in
      let leads = all_picked a.holds.ways (Leads c n a.instruction) m ((flow_leads c n a.instruction a.holds.fact).yields a.holds.ways (flows_on image counters c made accepted rs readings n s a)) w in
      subst (λ (k : Length). IsShorter (path c m) k) (sym p.1) (path_on c.listing (reached c) n m a.instruction p.0 p.2 (leads_follow c n m a.instruction l leads))

  -- a path leads on to an end: no state stays for ever, since counted jumps are taken in turn
  under_some : (l k : Length) → IsShorter l k → (p : ℕ) × (l ≡ Some p) → (q : ℕ) × (k ≡ Some q)
  under_some None k h (p, e) = absurd (cc)
  under_some (Some l) None h s = absurd h
  under_some (Some l) (Some k) h s = (k, refl)

  abbrev spent : List ℕ
  spent = replicate counters (total_count c.listing)

  not_spent : (t : State) → IsHead image c rs counters spent t → ⊥
  not_spent t head =
      let few = limit_within c.listing head.at head.here head.counter head.limit t.address head.condition head.listed in
      let all = repeated_is counters (total_count c.listing) head.counter head.count head.was in
      omega (arith, few, all, head.below)

  step_never_ends : (n : ℕ) (s : State) (a : At image counters c made accepted rs readings n s) → (IsLast a.instruction → ⊥) → NeverEnds (step image rs s)
  step_never_ends n s a h =
      let e = whole_stands image.code 0 c.listing made.whole n (s.address, a.instruction) a.listed in
      let decoded = e.decoded in
      rw decoded (goes_on image rs s.address e.next a.instruction s h).quiet

  has_path : (d n : ℕ) (s : State) → At image counters c made accepted rs readings n s → s.taken ≡ spent → length c.listing ≤ n + d → (p : ℕ) × (path c n ≡ Some p)
  has_path zero n s a full h = let w = get_within c.listing n (s.address, a.instruction) a.listed in absurd (omega (arith, w))
  has_path (suc d) n s a full h = either (ending_or_not a.instruction) (λ m t b l k. has_path d m t b l k)
    where
      on : (x : Step) → NeverEnds x → Advances image counters c made accepted rs readings n s.taken a.holds.ways x → ((m : ℕ) (t : State) → At image counters c made accepted rs readings m t → t.taken ≡ spent → length c.listing ≤ m + d → (p : ℕ) × (path c m ≡ Some p)) → (p : ℕ) × (path c n ≡ Some p)
      on (Goes t) e (m, b, inl w) again = under_some (path c m) (path c n) (shorter n m s a w.0 w.2) (again m t b (w.1 ∙ full) (omega (arith, w.0)))
      on (Goes t) e (m, b, inr head) again = absurd (not_spent t (subst (λ (ks : List ℕ). IsHead image c rs counters ks t) full head))
      on (Ends t) e g again = absurd e
      on (Traps t) e g again = absurd g

      either : IsLast a.instruction ⊎ (IsLast a.instruction → ⊥) → ((m : ℕ) (t : State) → At image counters c made accepted rs readings m t → t.taken ≡ spent → length c.listing ≤ m + d → (p : ℕ) × (path c m ≡ Some p)) → (p : ℕ) × (path c n ≡ Some p)
      either (inl e) again = let p = path_at n s a in let q = last_length c.listing n a.instruction p.0 e in (q.0, p.1 ∙ q.1)
      either (inr e) again = on (step image rs s) (step_never_ends n s a e) (step_advances image counters c made accepted rs readings n s a) again

  -- the counters say nothing of where a state stands
  counters_set : (n : ℕ) (s : State) (taken : List ℕ) → length taken ≡ counters → At image counters c made accepted rs readings n s → At image counters c made accepted rs readings n (record s { taken = taken })
  counters_set n s taken long a = record {
    instruction = a.instruction;
    listed = a.listed;
    ranges = record { variables = a.ranges.variables; outputs = a.ranges.outputs; deferred = a.ranges.deferred; counted = long };
    holds = record {
      fact = a.holds.fact;
      slot = a.holds.slot;
      fits = record { variables = a.holds.fits.variables; inputs = a.holds.fits.inputs; present = a.holds.fits.present; deferred = a.holds.fits.deferred; result = a.holds.fits.result };
      ways = a.holds.ways;
      flows = a.holds.flows;
    };
  }

  path_is : (n : ℕ) (s : State) → At image counters c made accepted rs readings n s → (p : ℕ) × (path c n ≡ Some p)
  path_is n s a = has_path (length c.listing) n (record s { taken = spent }) (counters_set n s spent (length-replicate {A = ℕ} counters (total_count c.listing)) a) refl (omega arith)

  -- what is left falls: a path, and the longest path after each counted jump that is left
  after_jump : (most p q x y : ℕ) → 0 < p → q ≤ most → x < y → q + most * x < p + most * y
  after_jump most p q x y h l less = let k = mul-le-mul_left most less in omega arith

  positive : (n : ℕ) (s : State) → At image counters c made accepted rs readings n s → 0 < count_of (path c n)
  positive n s a =
      let p = path_is n s a in
      let x = path_at n s a in
      let some = some_path c.listing n a.instruction x.0 p.0 (sym x.1 ∙ p.1) in
      omega (arith, ap count_of p.1)

  falls : (n m : ℕ) (s t : State) (a : At image counters c made accepted rs readings n s) → At image counters c made accepted rs readings m t → n < m → AnyWay a.holds.ways (λ w. w.0 ≡ m) → count_of (path c m) < count_of (path c n)
  falls n m s t a b l w =
      let p = path_is n s a in
      let q = path_is m t b in
      let less = shorter_count (path c m) (path c n) q.0 p.0 q.1 p.1 (shorter n m s a l w) in
      omega (arith, ap count_of q.1, ap count_of p.1)

  pub run_out : (k before n : ℕ) (s : State) → At image counters c made accepted rs readings n s → count_of (path c n) + longest_path c * jumps_left c.listing s.taken ≤ k → EndsWithin (before + k) (run image rs before k s)
  run_out zero before n s a h = let q = positive n s a in absurd (omega arith)
  run_out (suc k) before n s a h = go (step image rs s) (step_advances image counters c made accepted rs readings n s a) (λ t m b l. run_out k (before + 1) m t b l)
    where
      sum : (before + 1) + k ≡ before + suc k
      sum = omega arith

      below : (x y j : ℕ) → x < y → y + j ≤ suc k → x + j ≤ k
      below x y j l m = omega arith

      onward : (m : ℕ) (t : State) → At image counters c made accepted rs readings m t → n < m → t.taken ≡ s.taken → AnyWay a.holds.ways (λ w. w.0 ≡ m) → count_of (path c m) + longest_path c * jumps_left c.listing t.taken ≤ k
      onward m t b l kept w = subst (λ (ks : List ℕ). count_of (path c m) + longest_path c * jumps_left c.listing ks ≤ k) (sym kept) (below (count_of (path c m)) (count_of (path c n)) (longest_path c * jumps_left c.listing s.taken) (falls n m s t a b l w) h)

      down : (x y : ℕ) → x < y → y ≤ suc k → x ≤ k
      down x y l m = omega arith

      back : (m : ℕ) (t : State) → At image counters c made accepted rs readings m t → IsHead image c rs counters s.taken t → count_of (path c m) + longest_path c * jumps_left c.listing t.taken ≤ k
      back m t b head =
          let fewer = jump_taken c.listing head.at head.here head.counter head.limit t.address head.condition s.taken head.count head.listed head.was head.below in
          let starts = head_starts c.listing m (t.address, b.instruction) (head_found c.listing head.at head.here head.counter head.limit t.address head.condition head.listed) in
          let most : count_of (path c m) ≤ longest_path c = greatest_over c.listing 0 m (path_lengths c) c.listing (t.address, b.instruction) b.listed (subst (λ (i : ℕ). is_start c.listing i (t.address, b.instruction) ≡ true) (omega arith) starts) in
          let less = after_jump (longest_path c) (count_of (path c n)) (count_of (path c m)) (jumps_left c.listing (slice_set s.taken head.counter (head.count + 1))) (jumps_left c.listing s.taken) (positive n s a) most fewer in
          subst (λ (ks : List ℕ). count_of (path c m) + longest_path c * jumps_left c.listing ks ≤ k) (sym head.now) (down _ _ less h)

      go : (x : Step) → Advances image counters c made accepted rs readings n s.taken a.holds.ways x → ((t : State) (m : ℕ) → At image counters c made accepted rs readings m t → count_of (path c m) + longest_path c * jumps_left c.listing t.taken ≤ k → EndsWithin ((before + 1) + k) (run image rs (before + 1) k t)) → EndsWithin (before + suc k) (after_step (run image rs (before + 1) k) before x)
      go (Goes t) (m, b, inl w) on = subst (λ (j : ℕ). EndsWithin j (run image rs (before + 1) k t)) sum (on t m b (onward m t b w.0 w.1 w.2))
      go (Goes t) (m, b, inr head) on = subst (λ (j : ℕ). EndsWithin j (run image rs (before + 1) k t)) sum (on t m b (back m t b head))
      go (Ends t) b on = omega arith
      go (Traps e) b on = absurd b

  -- from the first instruction, no counted jump taken yet
  pub starts_out : (before : ℕ) (s : State) → At image counters c made accepted rs readings 0 s → s.taken ≡ replicate counters 0 → EndsWithin (before + budget c) (run image rs before (budget c) s)
  starts_out before s a none = run_out (budget c) before 0 s a (subst (λ (ks : List ℕ). count_of (path c 0) + longest_path c * jumps_left c.listing ks ≤ budget c) (sym none)
      (enough (count_of (path c 0)) (longest_path c) (jumps_left c.listing (replicate counters 0)) (total_count c.listing) (greatest_over c.listing 0 0 (path_lengths c) c.listing (s.address, a.instruction) a.listed refl) (all_left c.listing counters)))
    where
      enough : (p g x y : ℕ) → p ≤ g → x ≤ y → p + g * x ≤ g * (1 + y)
      enough p g x y h l = let k = mul-le-mul_left g l in omega arith
