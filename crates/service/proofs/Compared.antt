-- How outputs stand after a wanted block is told.
use Rattle.std.proofs.Common.{arith, ◌≡◌, ◌≢◌, ◌<◌, ◌≤◌, ◌+◌, ◌⊎◌, inl, inr, ℕ, Bool, true, false, ◌&&◌, eqb, List, length, Option, None, Some, slice_get, refl, sym, ap, subst, ◌∙◌, if◌then◌else◌}
use Rattle.std.specs.Prelude.{◌==◌, option_map, option_and_then, slice_set}
use Rattle.std.specs.Option.{option_map_or}
use Rattle.std.proofs.lemmas.Bool.{cases_lt}
use Rattle.std.proofs.lemmas.Bool.Decides.{eqb_tells}
use Rattle.std.proofs.lemmas.Option.{slice_get_past}
use Rattle.site_model.specs.declared.want.Want.{Want}
use Rattle.site_model.specs.Readings.{known_at}
use Rattle.gateway.specs.declared.poller.outcome.Outcome.{Outcome}
use Rattle.gateway.specs.declared.poller.outcome.Outcome.TheVariants as outcome
use Rattle.service_requests.specs.declared.request_end.RequestEnd.{RequestEnd}
use Rattle.service_parts.specs.Answering.{is_answer}
use Rattle.service_parts.specs.declared.asked.Asked.{Asked}
use Rattle.service.specs.declared.device_side.DeviceSide.{DeviceSide}
use Rattle.service.specs.declared.held_writes.HeldWrite.{HeldWrite}
use Rattle.service.specs.declared.held_writes.HeldWrites.{HeldWrites}
use Rattle.service.specs.declared.output.Output.{Output}
use Rattle.service.specs.declared.read_back.Difference.{Difference}
use Rattle.service.specs.declared.read_back.Shown.{Shown}
use Rattle.service.specs.declared.read_back.Shown.TheVariants as shown
use Rattle.service.specs.declared.service_state.Service.{Service}
use Rattle.service.specs.Comparing.{AreCompared, ComparesOne, IsCompared, WritesAnew, had_after, is_other}
use Rattle.service.specs.Having.{Has, HasMoreBy, HasNoMore, taken_by}
use Rattle.service.specs.ReadBack.{IsShownBy, IsShownIf, block_by, shown_in, shown_of}
use Rattle.service.specs.Told.{ShowsBy, IsShown, compares_at}
use Rattle.service.specs.Turning.{after_block, difference_in, showing}
use Rattle.service.proofs.ByNotes.{chosen, left_out}
use Rattle.service.proofs.Having.{had, none_known, same_there}

-- ---- one output

nothing_shown : (own : Option Output) → own ≡ option_map (after_block None) own
nothing_shown None = refl
nothing_shown (Some own) = refl

nothing_dropped : (is_compared : Bool) (entry : Option HeldWrite) → entry ≡ had_after None is_compared entry
nothing_dropped true entry = refl
nothing_dropped false entry = refl

pub compared_none : (output : ℕ) (old new : Service) → slice_get new.side.outputs.items output ≡ slice_get old.side.outputs.items output → known_at new.held.writes.items output ≡ known_at old.held.writes.items output → IsCompared None output old new
compared_none output old new stands held = record {
  stands = stands ∙ nothing_shown (slice_get old.side.outputs.items output);
  held = held ∙ nothing_dropped (compares_at old.side output) (known_at old.held.writes.items output);
}

module _ (output : ℕ) (first second third : Service) (this : Option Shown) where
  pub then_nothing : IsCompared this output first second → IsCompared None output second third → IsCompared this output first third
  then_nothing is none = record {
    stands = none.stands ∙ (sym (nothing_shown (slice_get second.side.outputs.items output)) ∙ is.stands);
    held = none.held ∙ (sym (nothing_dropped (compares_at second.side output) (known_at second.held.writes.items output)) ∙ is.held);
  }

  pub nothing_before : IsCompared None output first second → IsCompared this output second third → IsCompared this output first third
  nothing_before none is =
      let same : slice_get second.side.outputs.items output ≡ slice_get first.side.outputs.items output = none.stands ∙ sym (nothing_shown (slice_get first.side.outputs.items output)) in
      let had : known_at second.held.writes.items output ≡ known_at first.held.writes.items output = none.held ∙ sym (nothing_dropped (compares_at first.side output) (known_at first.held.writes.items output)) in
      record {
        stands = is.stands ∙ ap (option_map (after_block this)) same;
        held = is.held ∙ (ap (λ o. had_after this (option_map_or (λ (x : Output). x.is_read_back) o false) (known_at second.held.writes.items output)) same ∙ ap (had_after this (compares_at first.side output)) had);
      }

pub shown_same : (asked : Asked) (block : List ℕ) (output : ℕ) (first second : Service) → IsCompared None output first second → shown_in second.held asked block output ≡ shown_in first.held asked block output
shown_same asked block output first second none = ap (option_and_then (λ (write : HeldWrite). shown_of write asked block)) (none.held ∙ sym (nothing_dropped (compares_at first.side output) (known_at first.held.writes.items output)))

-- ---- one after another

-- the first so many outputs stand as the block shows them, the others as before
pub record AreComparedTo (asked : Asked) (block : List ℕ) (n : ℕ) (old new : Service) : Type 0 where
  pub before : (k : ℕ) → k < n → IsCompared (shown_in old.held asked block k) k old new
  pub after : (k : ℕ) → n ≤ k → IsCompared None k old new

below_other : (k i : ℕ) → k < i + 1 → k ≢ i → k < i
below_other k i below other = go (cases_lt k i)
  where
    go : (k < i) ⊎ (i ≤ k) → k < i
    go (inl less) = less
    go (inr more) = absurd (other (omega (arith, more, below)))

module _ (asked : Asked) (block : List ℕ) where
  pub none_compared : (s : Service) → AreComparedTo asked block 0 s s
  none_compared s = record { before = λ k below. absurd (omega (arith, below)); after = λ k above. compared_none k s s refl refl }

  -- the one with this number comes after those before it
  not_yet : (n : ℕ) (first second : Service) → AreComparedTo asked block n first second → IsCompared None n first second
  not_yet n first second to = to.after n (omega arith)

  pub one_more_compared : (n : ℕ) (first second third : Service) → AreComparedTo asked block n first second → ComparesOne (shown_in second.held asked block n) n second third → AreComparedTo asked block (n + 1) first third
  one_more_compared n first second third to now = record { before = λ k below. go k below (eqb_tells k n); after = λ k above. then_nothing k first second third None (to.after k (omega (arith, above))) (other k (λ at. absurd (omega (arith, above, at)))) }
    where
      other : (k : ℕ) → k ≢ n → IsCompared None k second third
      other k away = by_place (eqb_tells k n)
        where
          by_place : ((eqb k n ≡ true) × (k ≡ n)) ⊎ ((eqb k n ≡ false) × (k ≢ n)) → IsCompared None k second third
          by_place (inl here) = absurd (away here.1)
          by_place (inr there) = subst (λ this. IsCompared this k second third) (left_out (eqb k n) (shown_in second.held asked block n) None there.0) (now k)

      go : (k : ℕ) → k < n + 1 → ((eqb k n ≡ true) × (k ≡ n)) ⊎ ((eqb k n ≡ false) × (k ≢ n)) → IsCompared (shown_in first.held asked block k) k first third
      go k below (inl here) =
          let none : IsCompared None k first second = to.after k (omega (arith, here.1)) in
          let own : IsCompared (shown_in second.held asked block n) k second third = subst (λ this. IsCompared this k second third) (chosen (eqb k n) (shown_in second.held asked block n) None here.0) (now k) in
          subst (λ this. IsCompared this k first third) (ap (shown_in second.held asked block) (sym here.1) ∙ shown_same asked block k first second none) (nothing_before k first second third (shown_in second.held asked block n) none own)
      go k below (inr away) = then_nothing k first second third (shown_in first.held asked block k) (to.before k (below_other k n below away.1)) (other k away.1)

  pub all_compared : (n : ℕ) (old new : Service) → length old.side.outputs.items ≤ n → AreComparedTo asked block n old new → AreCompared asked block old new
  all_compared n old new all to k = go (cases_lt k n)
    where
      kept : (this : Option Shown) (b : Bool) → b ≡ false → (entry : Option HeldWrite) → entry ≡ had_after this b entry
      kept this true is entry = absurd (cc)
      kept this false is entry = refl

      go : (k < n) ⊎ (n ≤ k) → IsCompared (shown_in old.held asked block k) k old new
      go (inl below) = to.before k below
      go (inr past) =
          let none : IsCompared None k old new = to.after k past in
          let nowhere : slice_get old.side.outputs.items k ≡ None = slice_get_past old.side.outputs.items k (omega (arith, all, past)) in
          record {
            stands = none.stands ∙ (ap (option_map (after_block None)) nowhere ∙ ap (option_map (after_block (shown_in old.held asked block k))) (sym nowhere));
            held = none.held ∙ (sym (nothing_dropped (compares_at old.side k) (known_at old.held.writes.items k)) ∙ kept (shown_in old.held asked block k) (compares_at old.side k) (ap (λ o. option_map_or (λ (x : Output). x.is_read_back) o false) nowhere) (known_at old.held.writes.items k));
          }

  -- what is shown on the way is what the block shows of what was had at first
  pub shows_on : (n : ℕ) (first second third : Service) → AreComparedTo asked block n first second
      → ShowsBy (λ k this. shown_in first.held asked block k ≡ Some this) first.side second.side → ShowsBy (λ k this. (k ≡ n) × (shown_in second.held asked block n ≡ Some this)) second.side third.side
      → ShowsBy (λ k this. shown_in first.held asked block k ≡ Some this) first.side third.side
  shows_on n first second third before so_far now may has from led =
      now may (λ k this is. has k this (ap (shown_in first.held asked block) is.0 ∙ (sym (shown_same asked block n first second (not_yet n first second before)) ∙ is.1))) from (so_far may has from led)

-- ---- what is shown of one

pub one_shown : (output : ℕ) (this : Shown) (is_over : Bool) (old new : Service) → is_over ≡ (compares_at old.side output && is_other (Some this))
    → new.held.writes.items ≡ (if is_over then slice_set old.held.writes.items output None else old.held.writes.items)
    → ((k : ℕ) → slice_get new.side.outputs.items k ≡ (if k == output then option_map (showing this) (slice_get old.side.outputs.items k) else slice_get old.side.outputs.items k))
    → ComparesOne (Some this) output old new
one_shown output this is_over old new over held stands k = go (eqb_tells k output)
  where
    by_over : (b : Bool) → known_at (if b then slice_set old.held.writes.items output None else old.held.writes.items) output ≡ (if b then None else known_at old.held.writes.items output)
    by_over true = none_known old.held.writes.items output
    by_over false = refl

    by_other : (b : Bool) → k ≢ output → known_at (if b then slice_set old.held.writes.items output None else old.held.writes.items) k ≡ known_at old.held.writes.items k
    by_other true away = same_there old.held.writes.items output k None away
    by_other false away = refl

    go : ((eqb k output ≡ true) × (k ≡ output)) ⊎ ((eqb k output ≡ false) × (k ≢ output)) → IsCompared (if k == output then Some this else None) k old new
    go (inl here) = subst (λ o. IsCompared o k old new) (sym (chosen (eqb k output) (Some this) None here.0)) (record {
      stands = stands k ∙ chosen (eqb k output) (option_map (showing this) (slice_get old.side.outputs.items k)) (slice_get old.side.outputs.items k) here.0;
      held = subst (λ i. known_at new.held.writes.items i ≡ had_after (Some this) (compares_at old.side i) (known_at old.held.writes.items i)) (sym here.1)
          (ap (λ xs. known_at xs output) held ∙ (by_over is_over ∙ ap (λ b. if b then None else known_at old.held.writes.items output) over));
    })
    go (inr away) = subst (λ o. IsCompared o k old new) (sym (left_out (eqb k output) (Some this) None away.0)) (compared_none k old new
        (stands k ∙ left_out (eqb k output) (option_map (showing this) (slice_get old.side.outputs.items k)) (slice_get old.side.outputs.items k) away.0)
        (ap (λ xs. known_at xs k) held ∙ by_other is_over away.1))

either : {X : Type 0} (b : Bool) (x : X) → (if b then x else x) ≡ x
either true x = refl
either false x = refl

-- nothing is shown of it
pub none_shown : (this : Option Shown) (output : ℕ) (s : Service) → this ≡ None → ComparesOne this output s s
none_shown this output s none k = subst (λ o. IsCompared o k s s) (sym (ap (λ t. if k == output then t else None) none ∙ either (k == output) None)) (compared_none k s s refl refl)

pub shows_this : (this : Option Shown) (shown_ : Shown) (output : ℕ) (old new : DeviceSide) → this ≡ Some shown_ → ShowsBy (IsShown output shown_) old new → ShowsBy (λ k other. (k ≡ output) × (this ≡ Some other)) old new
shows_this this shown_ output old new is shows may has = shows may (λ k other own. has k other (own.0, is ∙ ap Some (sym own.1)))

-- ---- what differs

nothing_taken : (wants : List Want) (held : HeldWrites) (asked : Asked) (o : Outcome) (output : ℕ) (this : Shown) → IsShownBy wants held asked o output this → (now k : ℕ) → taken_by o asked now k ≡ None
nothing_taken wants held asked (outcome.Words words) output this is now k = refl
nothing_taken wants held asked outcome.Wrote output this is now k = absurd (cc)
nothing_taken wants held asked (outcome.Exception e) output this is now k = absurd (cc)
nothing_taken wants held asked outcome.Mismatch output this is now k = absurd (cc)
nothing_taken wants held asked outcome.Stale output this is now k = absurd (cc)

-- what shows something is an answer
pub shown_answers : (wants : List Want) (held : HeldWrites) (asked : Asked) (o : Outcome) (output : ℕ) (this : Shown) → IsShownBy wants held asked o output this → is_answer o ≡ true
shown_answers wants held asked (outcome.Words words) output this is = refl
shown_answers wants held asked outcome.Wrote output this is = absurd (cc)
shown_answers wants held asked (outcome.Exception e) output this is = absurd (cc)
shown_answers wants held asked outcome.Mismatch output this is = absurd (cc)
shown_answers wants held asked outcome.Stale output this is = absurd (cc)

dropped_so : (this : Option Shown) (difference : Difference) (b : Bool) (entry : Option HeldWrite) → this ≡ Some (shown.Other difference) → b ≡ true → had_after this b entry ≡ None
dropped_so None difference b entry is compares = absurd (cc)
dropped_so (Some shown.Same) difference b entry is compares = absurd (cc)
dropped_so (Some (shown.Other other)) difference true entry is compares = refl
dropped_so (Some (shown.Other other)) difference false entry is compares = absurd (cc)

-- a block is told of which this is so
pub by_block : (wants : List Want) (held : HeldWrites) (asked : Asked) (output : ℕ) (this : Shown) (told : Option (List ℕ)) → option_and_then (λ block. shown_in held asked block output) told ≡ Some this → (block : List ℕ) × (told ≡ Some block) × (shown_in held asked block output ≡ Some this)
by_block wants held asked output this None is = absurd (cc)
by_block wants held asked output this (Some block) is = (block, refl, is)

pub writes_anew : (wants : List Want) (asked : Asked) (o : Outcome) (now : ℕ) (first second : Service) (third last : HeldWrites) → ((block : List ℕ) → block_by wants asked.aim o ≡ Some block → AreCompared asked block first second)
    → HasMoreBy (taken_by o asked now) second.held third → HasNoMore third last → WritesAnew (IsShownBy wants first.held asked o) first.side last
writes_anew wants asked o now first second third last compared more then_none output difference shows compares is = go (more.each output is.write (had third last then_none output is.write is.has))
  where
    go : Has second.held output is.write ⊎ (taken_by o asked now output ≡ Some is.write) → ⊥
    go (inr taken) = never (sym (nothing_taken wants first.held asked o output (shown.Other difference) shows now output) ∙ taken)
      where
        never : None ≡ Some is.write → ⊥
        never no_ = absurd (cc)
    go (inl has) =
        let (block, told, this) = by_block wants first.held asked output (shown.Other difference) (block_by wants asked.aim o) shows in
        never (sym ((compared block told output).held ∙ dropped_so (shown_in first.held asked block output) difference (compares_at first.side output) (known_at first.held.writes.items output) this compares) ∙ has.is)
      where
        never : None ≡ Some is.write → ⊥
        never no_ = absurd (cc)

-- by what became of no request
pub shown_of_none : (wants : List Want) (held : HeldWrites) (asked : Option Asked) (f : Option RequestEnd) (output : ℕ) (this : Shown) → asked ≡ None → IsShownIf wants held asked f output this → ⊥
shown_of_none wants held None f output this none is = is
shown_of_none wants held (Some a) f output this none is = absurd (cc)

pub shown_by_nothing : (wants : List Want) (held : HeldWrites) (asked : Option Asked) (output : ℕ) (this : Shown) → IsShownIf wants held asked None output this → ⊥
shown_by_nothing wants held None output this is = is
shown_by_nothing wants held (Some a) output this is = is

-- where that is compared which was before
pub anew_since : (Shows : ℕ → Shown → Type 0) (side middle : DeviceSide) (left : HeldWrites) → ((output : ℕ) → compares_at middle output ≡ compares_at side output) → WritesAnew Shows middle left → WritesAnew Shows side left
anew_since Shows side middle left same anew output difference shows compares = anew output difference shows (same output ∙ compares)

-- ---- by an answer

same_some : {X : Type 0} {x y : X} → Some x ≡ Some y → x ≡ y
same_some is = cc

module _ (wants : List Want) (asked : Asked) (o : Outcome) where
  pub compared_told : (words : List ℕ) (old new : Service) → block_by wants asked.aim o ≡ Some words → AreCompared asked words old new → (block : List ℕ) → block_by wants asked.aim o ≡ Some block → AreCompared asked block old new
  compared_told words old new told compared block is = subst (λ b. AreCompared asked b old new) (same_some (sym told ∙ is)) compared

  pub none_told : (old new : Service) → block_by wants asked.aim o ≡ None → (block : List ℕ) → block_by wants asked.aim o ≡ Some block → AreCompared asked block old new
  none_told old new told block is = never (sym told ∙ is)
    where
      never : None ≡ Some block → AreCompared asked block old new
      never no_ = absurd (cc)

  pub shows_told : (held : HeldWrites) (words : List ℕ) (old new : DeviceSide) → block_by wants asked.aim o ≡ Some words → ShowsBy (λ output this. shown_in held asked words output ≡ Some this) old new → ShowsBy (IsShownBy wants held asked o) old new
  shows_told held words old new told shows may has = shows may (λ output this is. has output this (ap (option_and_then (λ block. shown_in held asked block output)) told ∙ is))
