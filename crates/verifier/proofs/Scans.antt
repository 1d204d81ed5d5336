-- Scans of an accepted image.
use Rattle.std.proofs.Common.{◌≡◌, ℕ, zero, suc, ◌+◌, List, [], ◌∷◌, length, replicate, Option, Some, None, slice_get, Bool, true, false, ℤ, refl, sym, ap, subst, ◌∙◌, arith, if◌then◌else◌, Result, Ok, Err, nat_le, ◌≤◌}
use Rattle.point_types.specs.declared.reading.Reading.{Reading}
use Rattle.point_types.specs.declared.reading.Reading.TheVariants as reading
use Rattle.point_types.specs.declared.variable.Var.{Var}
use Rattle.scan_code.specs.Image.{Image}
use Rattle.scan_code.specs.declared.image.Tag.{Tag}
use Rattle.scan_code.specs.Machine.{State, Ending, Ended, Trapped, Unfinished, run, opening}
use Rattle.scan_code.specs.Table.{no_turns}
use Rattle.site_model.specs.declared.tag.SiteTag.{SiteTag}
use Rattle.facts.specs.Fact.{zipped}
use Rattle.facts.specs.Flow.{Context, TagRange}
use Rattle.verifier.specs.Budget.{budget}
use Rattle.verifier.specs.Sound.{IsAccepted, AreReadings, IsReadingOf, loaded_of, inputs_of, AreInRanges, InRanges, IsCovered, IsFine, EndsWithin, EndsAndThen, ScansEnd, RunsWell, RunsOut, EveryScanEnds, IsYes, YesIsAccepted}
use Rattle.facts.proofs.Lists.{get_within}
use Rattle.verifier.proofs.Made.{IsMadeFrom, Within, AreLoaded, IsLoaded, SameTag}
use Rattle.verifier.proofs.Arriving.{slots_have}
use Rattle.verifier.proofs.Images.{made_from, by_both, ok_is}
use Rattle.verifier.specs.Verdict.{frame_of, refusal_of, budgeted, most_steps}
use Rattle.facts.specs.declared.refusal.Refusal.{Refusal}
use Rattle.facts.specs.declared.refusal.RefusedAt.TheVariants as spot
use Rattle.facts.specs.declared.refusal.RefusalKind.TheVariants.{OverBudget}
use Rattle.verifier.proofs.Run.{At, IsKept, run_kept, starting_at, opening_within}
use Rattle.verifier.proofs.Paths.{starts_out}
use Rattle.verifier.proofs.Unread.{AgreeAt, same_run}

-- the readings of inputs, and those of the other tags left out
loaded_is : (t : TagRange) (r : Reading) → IsReadingOf (Some t) (Some r) → IsLoaded (Some t) (Some (loaded_of t r))
loaded_is t r h = go t.output refl
  where
    read : (x : Reading) → IsReadingOf (Some t) (Some x) → t.output ≡ false → IsLoaded (Some t) (Some x)
    read (reading.Value n) k e = k e
    read (reading.Default n c) k e = k e
    read (reading.Absent c) k e = k

    go : (b : Bool) → t.output ≡ b → IsLoaded (Some t) (Some (if b then loaded_of (record t { output = true }) r else r))
    go true e = λ f. absurd (cc)
    go false e = read r h e

zipped_loaded : (ts : List TagRange) (rs : List Reading) (t : ℕ) → IsReadingOf (slice_get ts t) (slice_get rs t) → IsLoaded (slice_get ts t) (slice_get (zipped loaded_of ts rs) t)
zipped_loaded [] rs t h = tt
zipped_loaded (x ∷ ts) [] zero h = absurd h
zipped_loaded (x ∷ ts) [] (suc t) h = none (slice_get ts t) h
  where
    none : (o : Option TagRange) → IsReadingOf o None → IsLoaded o None
    none None h = tt
    none (Some x) h = h
zipped_loaded (x ∷ ts) (r ∷ rs) zero h = loaded_is x r h
zipped_loaded (x ∷ ts) (r ∷ rs) (suc t) h = zipped_loaded ts rs t h

zipped_agrees : (ts : List TagRange) (rs : List Reading) (t : ℕ) (r : TagRange) → slice_get ts t ≡ Some r → r.output ≡ false → IsReadingOf (Some r) (slice_get rs t) → slice_get rs t ≡ slice_get (zipped loaded_of ts rs) t
zipped_agrees [] rs t r e o h = absurd (cc)
zipped_agrees (x ∷ ts) [] zero r e o h = absurd h
zipped_agrees (x ∷ ts) [] (suc t) r e o h = absurd h
zipped_agrees (x ∷ ts) (y ∷ rs) zero r e o h = let p : x ≡ r = cc in let q : x.output ≡ false = ap (λ (z : TagRange). z.output) p ∙ o in rw q refl
zipped_agrees (x ∷ ts) (y ∷ rs) (suc t) r e o h = zipped_agrees ts rs t r e o h

turned : no_turns ≡ replicate 256 0
unfolding no_turns
turned = refl

module _ (image : Image) (site : List SiteTag) (depth : ℕ) (c : Context) (accepted : IsAccepted image site depth c) (rs : List Reading) (readings : AreReadings c rs) where
  made : IsMadeFrom image 256 c
  made = made_from image site depth c accepted.proper accepted.framed

  loaded : AreLoaded c (inputs_of c rs)
  loaded t = zipped_loaded c.tags rs t (readings t)

  agree : (t : ℕ) → AgreeAt (slice_get image.tags t) (slice_get rs t) (slice_get (inputs_of c rs) t)
  agree t = go (slice_get image.tags t) (slice_get c.tags t) refl (made.tags t)
    where
      go : (o : Option Tag) (r : Option TagRange) → slice_get c.tags t ≡ r → SameTag o r → AgreeAt o (slice_get rs t) (slice_get (inputs_of c rs) t)
      go None r e s = tt
      go (Some g) None e s = absurd s
      go (Some g) (Some r) e s = λ o. zipped_agrees c.tags rs t r e (sym s.0 ∙ o) (subst (λ (x : Option TagRange). IsReadingOf x (slice_get rs t)) e (readings t))

  same : (n before : ℕ) (s : State) → run image rs before n s ≡ run image (inputs_of c rs) before n s
  same n before s = same_run image rs (inputs_of c rs) agree n before s

  abbrev Standing : ℕ → State → Type 0
  Standing m s = At image 256 c made accepted.unrefused (inputs_of c rs) loaded m s

  opened : (variables : List ℤ) → AreInRanges image.vars variables → Standing 0 (opening image variables)
  opened variables h = starting_at image 256 c made accepted.unrefused (inputs_of c rs) loaded (opening image variables) refl refl
      (opening_within image c variables (subst (λ (ds : List Var). AreInRanges ds variables) made.variables h))

  in_ranges : (s : State) → Within c 256 s → InRanges c s
  in_ranges s w = record { variables = w.variables; outputs = w.outputs; deferred = w.deferred }

  covered : (m : ℕ) (s : State) → Standing m s → IsCovered c rs s
  covered m s a = record {
    number = m;
    instruction = a.instruction;
    listed = a.listed;
    fact = a.holds.fact;
    slot = slots_have c (inputs_of c rs) (length c.listing) m (get_within c.listing m (s.address, a.instruction) a.listed) ∙ ap Some a.holds.slot;
    fits = a.holds.fits;
  }

  fine : (e : Ending) → IsKept image 256 c made accepted.unrefused (inputs_of c rs) loaded e → IsFine c rs e
  fine (Ended steps t) h = in_ranges t h
  fine (Trapped at e) h = h
  fine (Unfinished t) h = (in_ranges t h.1.ranges, covered h.0 t h.1)

  pub runs : (variables : List ℤ) → AreInRanges image.vars variables → (n : ℕ) → IsFine c rs (run image rs 0 n (opening image variables))
  runs variables h n = rw (same n 0 (opening image variables)) (fine _ (run_kept image 256 c made accepted.unrefused (inputs_of c rs) loaded n 0 0 (opening image variables) (opened variables h)))

  pub ends : (variables : List ℤ) → AreInRanges image.vars variables → EndsWithin (budget c) (run image rs 0 (budget c) (opening image variables))
  ends variables h = rw (same (budget c) 0 (opening image variables)) (subst (λ (k : ℕ). EndsWithin k (run image (inputs_of c rs) 0 (budget c) (opening image variables))) none
      (starts_out image 256 c made accepted.unrefused (inputs_of c rs) loaded 0 (opening image variables) (opened variables h) turned))
    where
      none : 0 + budget c ≡ budget c
      none = omega arith

  pub vars_are : image.vars ≡ c.variables
  vars_are = made.variables

at_most : (n m : ℕ) → nat_le n m ≡ true → n ≤ m
at_most n m e = grind arith

pub runs_well : RunsWell
runs_well image site depth c accepted rs readings variables h n = runs image site depth c accepted rs readings variables h n

pub runs_out : RunsOut
runs_out image site depth c accepted rs readings variables h = ends image site depth c accepted rs readings variables h

both : (c : Context) (e : Ending) (P : List ℤ → Type 0) (rs : List Reading) → EndsWithin (budget c) e → IsFine c rs e → ((variables : List ℤ) → AreInRanges c.variables variables → P variables) → EndsAndThen c e P
both c (Ended steps t) P rs h k on = (h, k, on t.variables k.variables)
both c (Trapped at e) P rs h k on = h
both c (Unfinished t) P rs h k on = h

pub every_scan_ends : EveryScanEnds
every_scan_ends image site depth c accepted [] all variables h = tt
every_scan_ends image site depth c accepted (rs ∷ rows) all variables h =
    both c _ (ScansEnd image c rows) rs (ends image site depth c accepted rs all.0 variables h) (runs image site depth c accepted rs all.0 variables h (budget c))
    (λ left k. every_scan_ends image site depth c accepted rows all.1 left (subst (λ (ds : List Var). AreInRanges ds left) (sym (vars_are image site depth c accepted rs all.0)) k))

pub yes_is_accepted : YesIsAccepted
yes_is_accepted image site depth steps proper e = by_both (frame_of image site depth) (λ c. budgeted c (refusal_of c)) steps e (λ c p f. unrefused c p (refusal_of c) refl f)
  where
    bounded : (c : Context) → frame_of image site depth ≡ Ok c → refusal_of c ≡ None → (t : Bool) → nat_le (budget c) most_steps ≡ t → ◌≡◌ {A = Result ℕ Refusal} (if t then Ok (budget c) else Err (record { at = spot.Program; kind = OverBudget })) (Ok steps) → IsYes image site depth steps
    bounded c p q false t f = absurd (cc)
    bounded c p q true t f = let s = ok_is (budget c) steps f in record { context = c; accepted = record { proper = proper; framed = p; unrefused = q }; budgeted = sym s; bounded = subst (λ (k : ℕ). k ≤ most_steps) s (at_most (budget c) most_steps t) }

    unrefused : (c : Context) → frame_of image site depth ≡ Ok c → (o : Option Refusal) → refusal_of c ≡ o → budgeted c o ≡ Ok steps → IsYes image site depth steps
    unrefused c p (Some refusal) q f = absurd (cc)
    unrefused c p None q f = bounded c p q (nat_le (budget c) most_steps) refl f
