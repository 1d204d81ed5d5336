-- A search over answers that were told, and how many reads it makes.
use Rattle.std.proofs.Common.{◌≡◌, inl, inr, ℕ, suc, ◌+◌, ◌*◌, ◌≤◌, List, [], ◌∷◌, ◌++◌, length, map, Bool, true, false, if◌then◌else◌, IfSome, ◌==◌, Option, None, Some, Result, Ok, Err, refl, sym, ap, ◌∙◌, subst, arith, length-append}
use Rattle.register_map.specs.declared.layout.Block.{Block}
use Rattle.register_map.specs.declared.layout.MapFault.{MapFault}
use Rattle.register_map.specs.declared.layout.MapFault.TheVariants.{NoMark, NotCommon, PastEnd, TooMany, Read}
use Rattle.register_map.specs.declared.access.ReadFault.TheVariants.{Failed}
use Rattle.register_map.specs.Layout.{Layout}
use Rattle.register_map.specs.Reads.{Answer, RegisterRead, Runs, TakesNext}
use Rattle.register_map.specs.Chain.{IsFaulty, AreModels, IsChain, most_models}
use Rattle.register_map.specs.Search.{LacksMark, IsSearch, all_registers}
use Rattle.gateway.specs.poller.Finding.{bases_by}
use Rattle.gateway.proofs.Searched.{AreSent, search_sent}
use Rattle.service_requests.specs.declared.read_answer.ReadAnswer.{ReadAnswer}
use Rattle.service_requests.specs.declared.search.CommonRead.{CommonRead}
use Rattle.service_requests.specs.declared.search.CommonRead.TheVariants as common
use Rattle.service_requests.specs.Searches.{answer_told, AreAnswered, EndsBy, GoesOn, IsNext, IsOver, Replaying, Replays, Sought, common_of, common_words, end_by, fitting, named_by, step_by}

-- ---- how many reads

one_read : (s t : List RegisterRead) (a c : ℕ) (answer : Answer) → TakesNext s a c answer t → length s ≡ 1 + length t
one_read s t a c answer next = ap (λ (l : List RegisterRead). length l) next ∙ omega arith

models_count : (limit : ℕ) (s t : List RegisterRead) (k a : ℕ) (bs : List Block) (n : ℕ) → k ≤ most_models → AreModels TakesNext limit s k a bs n t
    → (length s ≡ 2 * length bs + length t) × (k + length bs ≤ most_models)
models_count limit s t k a [] n few p = (ap (λ (l : List RegisterRead). length l) p.1 ∙ omega arith, omega (arith, few))
models_count limit s t k a (b ∷ bs) n few p =
    let model = p.1 in
    let first = one_read s model.4.0 a 1 _ model.4.1 in
    let second = one_read model.4.0 p.0 (a + 1) 1 _ model.4.2 in
    let more = models_count limit p.0 t (k + 1) (a + 2 + b.length) bs n (omega (arith, model.3)) p.2 in
    (omega (arith, first, second, more.0), omega (arith, more.1))

faulty_count : (limit : ℕ) (s : List RegisterRead) (k a : ℕ) (fault : MapFault) → k ≤ most_models → IsFaulty TakesNext limit s k a [] fault → 2 * k + length s ≤ 129
faulty_count limit s k a NoMark few p = absurd p
faulty_count limit s k a NotCommon few p = omega (arith, few, one_read s [] a 1 _ p.2.2)
faulty_count limit s k a PastEnd few (inl p) = omega (arith, few, ap (λ (l : List RegisterRead). length l) p.1)
faulty_count limit s k a PastEnd few (inr p) = omega (arith, few, one_read s [] a 1 _ p.1.2)
faulty_count limit s k a TooMany few p = omega (arith, few, one_read s [] a 1 _ p.2.2)
faulty_count limit s k a Read few (inl p) = omega (arith, few, one_read s [] a 1 _ p.1.1)
faulty_count limit s k a Read few (inr p) = omega (arith, p.0, one_read s p.2.1 a 1 _ p.2.3, one_read p.2.1 [] (a + 1) 1 _ p.2.4.1)

chain_count : (limit : ℕ) (s : List RegisterRead) (a : ℕ) (r : Result Layout MapFault) → IsChain TakesNext limit s a [] r → length s ≤ 129
chain_count limit s a (Ok found) p =
    let models = models_count limit s p.0 0 a found.blocks found.end (omega arith) p.1 in
    omega (arith, models.0, models.1, one_read p.0 [] _ 1 _ p.2.2)
chain_count limit s a (Err fault) p =
    let models = models_count limit s p.2 0 a p.0 p.1 (omega arith) p.3 in
    let last = faulty_count limit p.2 (length p.0) p.1 fault (omega (arith, models.1)) p.4 in
    omega (arith, models.0, last)

lacks_count : (s t : List RegisterRead) (b : ℕ) → LacksMark TakesNext s b t → length s ≡ 1 + length t
lacks_count s t b (inl p) = one_read s t b 2 _ p.2
lacks_count s t b (inr p) = one_read s t b 2 _ p

search_count : (limit : ℕ) (s : List RegisterRead) (bases : List ℕ) (r : Result Layout MapFault) → IsSearch TakesNext limit s bases [] r → length s ≤ length bases + 129
search_count limit s [] r p = omega (arith, ap (λ (l : List RegisterRead). length l) p.0)
search_count limit s (b ∷ bs) r (inl p) = omega (arith, lacks_count s p.0 b p.1, search_count limit p.0 bs r p.2)
search_count limit s (b ∷ bs) r (inr (inl p)) = omega (arith, one_read s p.0 b 2 _ p.1, chain_count limit p.0 (b + 2) r p.2)
search_count limit s (b ∷ bs) r (inr (inr p)) = omega (arith, one_read s [] b 2 _ p.0)

one_base : (base : ℕ) (b : Bool) → length (if b then [] else base ∷ []) ≤ 3
one_base base true = omega arith
one_base base false = omega arith

bases_count : (base : Option ℕ) → length (bases_by base) ≤ 3
bases_count None = omega arith
bases_count (Some base) = one_base base (base == 65535)

-- ---- what the answers that were told make of it

answered_count : (reads : List RegisterRead) (answers : List Answer) → AreAnswered reads answers → length reads ≡ length answers
answered_count [] [] p = refl
answered_count [] (a ∷ others) p = absurd p
answered_count (r ∷ rs) [] p = absurd p
answered_count (r ∷ rs) (a ∷ others) p = ap suc (answered_count rs others p.1)

read_of_parts : ℕ → ℕ → Answer → RegisterRead
read_of_parts address count answer = record { address = address; count = count; answer = answer }

ends_here : (result : Result Layout MapFault) (answers : List Answer) (wanted : Option (ℕ × ℕ)) → wanted ≡ None → EndsBy answers wanted [] result
ends_here result answers wanted none =
    let P : Option (ℕ × ℕ) → Type 0 = λ w. EndsBy answers w [] result in
    subst P (sym none) ([], answers, refl, tt)

ends_wanting : (result : Result Layout MapFault) (r : RegisterRead) (rest : List RegisterRead) (wanted : Option (ℕ × ℕ)) → wanted ≡ Some (r.address, r.count) → r.answer ≡ Err Failed → rest ≡ [] → result ≡ Err Read
    → EndsBy [] wanted (r ∷ rest) result
unfolding read_of_parts
ends_wanting result r rest wanted here failed last is =
    let P : Option (ℕ × ℕ) → Type 0 = λ w. EndsBy [] w (r ∷ rest) result in
    subst P (sym here) ([], ap (λ a. read_of_parts r.address r.count a ∷ rest) failed ∙ ap (λ l. read_of_parts r.address r.count (Err Failed) ∷ l) last, tt, is)

ends_more : (result : Result Layout MapFault) (r : RegisterRead) (rest : List RegisterRead) (a : Answer) (answers : List Answer) (wanted : Option (ℕ × ℕ)) → r.answer ≡ fitting r.count a
    → EndsBy answers wanted rest result → EndsBy (a ∷ answers) wanted (r ∷ rest) result
ends_more result r rest a answers None is p = (a ∷ p.0, p.1, ap (λ l. a ∷ l) p.2, (is, p.3))
ends_more result r rest a answers (Some at) is p = (r ∷ p.0, ap (λ l. r ∷ l) p.1, (is, p.2), p.3)

replayed_from : (result : Result Layout MapFault) (log : List RegisterRead) (answers : List Answer) (t : Replaying) → Runs Replays (record { left = answers; wanted = None }) log t → AreSent log result → EndsBy answers t.wanted log result
replayed_from result [] answers t runs sent = ends_here result answers t.wanted (ap (λ (x : Replaying). x.wanted) (sym runs))
replayed_from result (r ∷ rest) [] t (u, (failed, after), runs) sent =
    let last = sent.1 failed in
    let P : List RegisterRead → Type 0 = λ l. Runs Replays u l t in
    let same : u ≡ t = subst P last.0 runs in
    ends_wanting result r rest t.wanted (ap (λ (x : Replaying). x.wanted) (sym same ∙ after)) failed last.0 last.1
replayed_from result (r ∷ rest) (a ∷ answers) t (u, (is, after), runs) sent =
    let P : Replaying → Type 0 = λ x. Runs Replays x rest t in
    ends_more result r rest a answers t.wanted is (replayed_from result rest answers t (subst P after runs) sent.2)

is_over : (s : Sought) (result : Result Layout MapFault) (log : List RegisterRead) → EndsBy s.answers None log result → IsSearch TakesNext all_registers log (bases_by s.base) [] result → IsOver s result
is_over s result log p search = record { reads = log; used = p.0; others = p.1; split = p.2; answered = p.3; search = search }

goes_on : (s : Sought) (result : Result Layout MapFault) (log : List RegisterRead) (at : ℕ × ℕ) → EndsBy s.answers (Some at) log result → IsSearch TakesNext all_registers log (bases_by s.base) [] result → GoesOn s at.0 at.1
goes_on s result log at p search =
    let P : List RegisterRead → Type 0 = λ l. IsSearch TakesNext all_registers l (bases_by s.base) [] result in
    let Q : Result Layout MapFault → Type 0 = λ r. IsSearch TakesNext all_registers (p.0 ++ record { address = at.0; count = at.1; answer = Err Failed } ∷ []) (bases_by s.base) [] r in
    let whole = subst P p.1 search in
    let few = search_count all_registers _ (bases_by s.base) result whole in record {
      reads = p.0;
      answered = p.2;
      search = subst Q p.3 whole;
      few = omega (arith, few, bases_count s.base, answered_count p.0 s.answers p.2, length-append p.0 (record { address = at.0; count = at.1; answer = Err Failed } ∷ []));
    }

named_next : (s : Sought) (found : Layout) (address : Option ℕ) → s.common ≡ common.Wanted → common_of found ≡ address → IsOver s (Ok found) → IsNext s (named_by address)
named_next s found None wanted stands over = record { found = found; over = over; wanted = wanted; none = stands }
named_next s found (Some address) wanted stands over = (address, common_words, refl, inr (record { found = found; over = over; wanted = wanted; stands = stands }, refl))

found_next : (s : Sought) (found : Layout) (read : CommonRead) → s.common ≡ read → IsOver s (Ok found) → IsNext s (end_by read found)
found_next s found common.Unwanted is over = record { over = over; read = λ wanted. absurd (cc) }
found_next s found common.Done is over = record { over = over; read = λ wanted. absurd (cc) }
found_next s found common.Wanted is over = named_next s found (common_of found) is refl over

next_by : (s : Sought) (wanted : Option (ℕ × ℕ)) (result : Result Layout MapFault) (log : List RegisterRead) → EndsBy s.answers wanted log result → IsSearch TakesNext all_registers log (bases_by s.base) [] result → IsNext s (step_by s.common wanted result)
next_by s None (Ok found) log ends search = found_next s found s.common refl (is_over s (Ok found) log ends search)
next_by s None (Err fault) log ends search = (fault, is_over s (Err fault) log ends search)
next_by s (Some at) result log ends search = (at.0, at.1, refl, inl (goes_on s result log at ends search))

-- a search over the answers so far that wants none is over
pub over_replayed : (s : Sought) (t : Replaying) (result : Result Layout MapFault) (log : List RegisterRead) → Runs Replays (record { left = s.answers; wanted = None }) log t
    → IsSearch TakesNext all_registers log (bases_by s.base) [] result → t.wanted ≡ None → IsOver s result
over_replayed s t result log runs search none =
    let P : Option (ℕ × ℕ) → Type 0 = λ w. EndsBy s.answers w log result in
    is_over s result log (subst P none (replayed_from result log s.answers t runs (search_sent all_registers log (bases_by s.base) result search))) search

-- what comes next, by a search over the answers so far
pub next_replayed : (s : Sought) (t : Replaying) (result : Result Layout MapFault) (log : List RegisterRead) → Runs Replays (record { left = s.answers; wanted = None }) log t
    → IsSearch TakesNext all_registers log (bases_by s.base) [] result → IsNext s (step_by s.common t.wanted result)
next_replayed s t result log runs search =
    next_by s t.wanted result log (replayed_from result log s.answers t runs (search_sent all_registers log (bases_by s.base) result search)) search

last_few : (reads : List RegisterRead) (r : RegisterRead) (result : Result Layout MapFault) → AreSent (reads ++ r ∷ []) result → (1 ≤ r.count) × (r.count ≤ 125)
last_few [] r result sent = sent.0
last_few (x ∷ xs) r result sent = last_few xs r result sent.2

-- what has no answer is one or two registers
wanted_few : (answers : List Answer) (wanted : Option (ℕ × ℕ)) (result : Result Layout MapFault) (log : List RegisterRead) → EndsBy answers wanted log result → AreSent log result → IfSome wanted (λ at. (1 ≤ at.1) × (at.1 ≤ 125))
wanted_few answers None result log ends sent = tt
wanted_few answers (Some at) result log ends sent =
    let P : List RegisterRead → Type 0 = λ l. AreSent l result in
    last_few ends.0 (record { address = at.0; count = at.1; answer = Err Failed }) result (subst P ends.1 sent)

pub replayed_few : (s : Sought) (t : Replaying) (result : Result Layout MapFault) (log : List RegisterRead) → Runs Replays (record { left = s.answers; wanted = None }) log t
    → IsSearch TakesNext all_registers log (bases_by s.base) [] result → IfSome t.wanted (λ at. (1 ≤ at.1) × (at.1 ≤ 125))
replayed_few s t result log runs search =
    let sent = search_sent all_registers log (bases_by s.base) result search in
    wanted_few s.answers t.wanted result log (replayed_from result log s.answers t runs sent) sent

replaying_of : List Answer → Replaying
replaying_of answers = record { left = answers; wanted = None }

pub begins_with : (r : Replaying) (now items : List ReadAnswer) → r ≡ record { left = map answer_told now; wanted = None } → now ≡ items → r ≡ record { left = map answer_told items; wanted = None }
unfolding replaying_of
begins_with r now items is same = is ∙ ap (λ l. replaying_of (map answer_told l)) same
