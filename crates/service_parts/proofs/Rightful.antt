-- What goes out is a request that may be asked, and it is the one that is noted.
use Rattle.std.proofs.Common.{◌≡◌, ◌≢◌, ◌⊎◌, inl, inr, ℕ, Bool, true, false, not, ◌&&◌, eqb, List, [], ◌++◌, take, drop, length, set, All, get_or, Option, None, Some, slice_get, refl, sym, ap, subst, ◌∙◌, append_assoc}
use Rattle.std.specs.Prelude.{IsTrue, min}
use Rattle.std.proofs.Math.Logic.{∥∥₁_elim, ∥∥₁_prop}
use Rattle.std.proofs.lemmas.Bool.Decides.{eqb_tells}
use Rattle.std.proofs.lemmas.List.{take-append-drop}
use Rattle.std.proofs.lemmas.List.Elements.{All-get_or}
use Rattle.std.proofs.lemmas.Option.{slice_get_within, get_or_from_slice_get}
use Rattle.std.proofs.Math.Seq.{drop-nil}
use Rattle.modbus_frame.specs.declared.message.Request.{Request}
use Rattle.modbus_frame.specs.Frame.{frame_bytes}
use Rattle.modbus_frame.specs.Message.{address_of}
use Rattle.scan_vm.specs.Machine.{Running}
use Rattle.site_model.proofs.Entries.{set-cases}
use Rattle.verifier.specs.Verified.{HasLinks}
use Rattle.gateway.specs.declared.event_core.event.Event.{Event}
use Rattle.gateway.specs.declared.poller.cycle.Call.{Call}
use Rattle.gateway.specs.event_core.Core.{Gateway, adopting}
use Rattle.gateway.specs.poller.LinkRun.{Asked as FrameRequest, frame_of, most_dropped}
use Rattle.service_requests.specs.declared.request_end.RequestEnd.{RequestEnd}
use Rattle.modbus_frame.specs.declared.fault.FrameFault.{FrameFault}
use Rattle.service_requests.specs.Hearing.{HearsFor, Pending, Takes, TakesUnless, Wait, lost_by, with_rest}
use Rattle.service_requests.specs.declared.search.SearchStep.{SearchStep}
use Rattle.service_requests.specs.declared.search.SearchStep.TheVariants as step
use Rattle.service_parts.specs.declared.limits.Station.{Station}
use Rattle.service_parts.specs.declared.device_connection.DeviceConnection.{DeviceConnection}
use Rattle.service_parts.specs.declared.connections.Connections.{Connections}
use Rattle.service_parts.specs.declared.asked.Aim.{Aim}
use Rattle.service_parts.specs.declared.asked.Aim.TheVariants as aim
use Rattle.service_parts.specs.declared.asked.Asked.{Asked}
use Rattle.service_parts.specs.Calls.{IsCallFor}
use Rattle.service_parts.specs.Course.{Goes, GoesBy, GoesOn, IsOfClients, IsOfRounds, LeadsOnBy, Reached, stays, steps, learns}
use Rattle.service_parts.specs.Course as course
use Rattle.service_parts.specs.Frames.{Begins, GivesUp, Hears, IsCut, Keeps, Sends, TakesWhere, dialled, left_under_way}
use Rattle.service_parts.specs.Requests.{AreRightful, AreRightfulBy, IsFoundOn, IsMade, IsNoted, IsNotedIf, IsOfRound, IsRightful, IsRightfulLine, IsRightfulOn, MayBeAsked, MayGoOver, words_of}
use Rattle.service_parts.specs.Seeking.{IsSought}
use Rattle.service_parts.proofs.Frames.{set_other, set_there, still_asked, still_pending, still_out, unchanged}

-- ---- whatever kinds there are

of_any : (Kinds : Event → Type 0) (g h : Gateway) → GoesBy Kinds g h → Goes g h
of_any Kinds g h (stays s) = stays g
of_any Kinds g h (learns {h = middle} before device found is) = learns (of_any Kinds g middle before) device found is
of_any Kinds g h (steps {h = middle} before e kind a i one) = steps (of_any Kinds g middle before) e tt a i one

and_then : (f g h : Gateway) → Goes f g → Goes g h → Goes f h
and_then f g h first (stays s) = first
and_then f g h first (learns {h = middle} before device found is) = learns (and_then f g middle first before) device found is
and_then f g h first (steps {h = middle} before e kind a i one) = steps (and_then f g middle first before) e kind a i one

pub goes_further : (f old new : Gateway) → GoesOn f old → Goes old new → GoesOn f new
goes_further f old new (course.goes before) more = course.goes (and_then f old new before more)
goes_further f old new (course.adopts {h = middle} before machine links i after) more = course.adopts before machine links new (and_then (adopting machine middle) old new after more)

pub goes_behind : (Kinds : Event → Type 0) (f old new : Gateway) → GoesOn f old → LeadsOnBy Kinds old new → ∥ GoesOn f new ∥₁
goes_behind Kinds f old new before goes = ∥∥₁_elim (goes old ∣ stays old ∣₁) ∥∥₁_prop (λ more. ∣ goes_further f old new before (of_any Kinds old new more) ∣₁)

-- ---- what may be asked

pub of_round : (g : Gateway) (made_for : Aim) (device : ℕ) (call : Call) → IsCallFor g made_for device call → IsOfRound g made_for device call.request
of_round g made_for device call is = record { unit = call.unit; call = is }

pub round_over : (g : Gateway) (numbers : List ℕ) (found_on : List (Option ℕ)) (link : ℕ) (made_for : Aim) (device : ℕ) (request : Request) → IsOfRound g made_for device request
    → ((number : ℕ) → slice_get numbers link ≡ Some number → IsFoundOn found_on number device) → MayGoOver g numbers found_on link made_for device request
round_over g numbers found_on link made_for device request round found number at = ∣ inl (round, found number at) ∣₁

pub search_over : (g : Gateway) (numbers : List ℕ) (found_on : List (Option ℕ)) (link device : ℕ) (next : SearchStep) (request : Request) → ∥ IsSought g.site device next ∥₁ → next ≡ step.Ask request
    → MayGoOver g numbers found_on link aim.Map device request
search_over g numbers found_on link device next request sought is number at = ∥∥₁_elim sought ∥∥₁_prop (λ s. ∣ inr (refl, subst (IsSought g.site device) is s) ∣₁)

-- ---- places of lists

same_station : {a b : Option Station} {x y : Station} → a ≡ Some x → b ≡ Some y → a ≡ b → x ≡ y
same_station p q e = cc

same_number : {o : Option ℕ} {x y : ℕ} → o ≡ Some x → o ≡ Some y → x ≡ y
same_number p q = cc

some_within : (found_on : List (Option ℕ)) (device : ℕ) (x v : Option ℕ) → slice_get found_on device ≡ Some x → slice_get (set found_on device v) device ≡ Some v
some_within found_on device x v at = set_there found_on device x v at

-- ---- what bytes leave under way

still_waits : (old new : Pending) (bytes left : List ℕ) (wait : Wait) → old.wait ≡ Some wait → Takes (with_rest old []) bytes None (with_rest new left) → (w : Wait) × (new.wait ≡ Some w) × (w.asked ≡ wait.asked)
still_waits old new bytes left wait is takes = go old.held.fault takes
  where
    go : (f : Option FrameFault) → TakesUnless f (with_rest old []) bytes None (with_rest new left) → (w : Wait) × (new.wait ≡ Some w) × (w.asked ≡ wait.asked)
    go (Some fault) lost = absurd (none lost.0 is)
      where
        none : {o : Option Wait} → None ≡ lost_by o → o ≡ Some wait → ⊥
        none e at = cc
    go None heard =
        let open_still = subst (λ o. HearsFor o (record { held = old.held; unfed = bytes }) None (with_rest new left)) is heard in
        (record { asked = wait.asked; may_drop = open_still.0 }, open_still.2, refl)

-- ---- one line, by the state of now

module _ (now : Gateway) (stations : List Station) (found_on : List (Option ℕ)) (link number : ℕ) where
  left_of : (bytes : List ℕ) (n : ℕ) → IsRightful now stations found_on link number bytes → IsRightful now stations found_on link number (drop n bytes)
  left_of bytes n (inl none) = inl (ap (drop n) none ∙ drop-nil n)
  left_of bytes n (inr rest) = inr (record {
    device = rest.device;
    made_for = rest.made_for;
    frame = rest.frame;
    made = rest.made;
    gone = rest.gone ++ take n bytes;
    whole = append_assoc rest.gone (take n bytes) (drop n bytes) ∙ (ap (λ l. rest.gone ++ l) (take-append-drop n bytes) ∙ rest.whole);
  })

  cut_line : (line : DeviceConnection) → IsCut line → IsRightfulLine now stations found_on link number line
  cut_line line cut = record {
    waits = inl cut.quiet;
    noted = subst (λ o. IsNotedIf now stations found_on link number o line) (sym cut.none) tt;
  }

  kept_line : (old new : DeviceConnection) → new.asked ≡ old.asked → new.pending ≡ old.pending → new.out.items ≡ old.out.items → IsRightfulLine now stations found_on link number old → IsRightfulLine now stations found_on link number new
  kept_line old new still heard same right = record {
    waits = subst (λ l. IsRightful now stations found_on link number l) (sym same) right.waits;
    noted = subst (λ o. IsNotedIf now stations found_on link number o new) (sym still) (go old.asked right.noted);
  }
    where
      go : (o : Option Asked) → IsNotedIf now stations found_on link number o old → IsNotedIf now stations found_on link number o new
      go None noted = tt
      go (Some asked) noted = record {
        over = noted.over;
        wait = noted.wait;
        waits = ap (λ (h : Pending). h.wait) heard ∙ noted.waits;
        made = noted.made;
        address = noted.address;
        words = noted.words;
        gone = noted.gone;
        whole = ap (λ l. noted.gone ++ l) same ∙ noted.whole;
      }

  given_up_line : (old new : DeviceConnection) → GivesUp old new → IsRightfulLine now stations found_on link number old → IsRightfulLine now stations found_on link number new
  given_up_line old new gives right = record {
    waits = subst (λ l. IsRightful now stations found_on link number l) (sym gives.same) right.waits;
    noted = subst (λ o. IsNotedIf now stations found_on link number o new) (sym gives.over) tt;
  }

  sent_line : (old new : DeviceConnection) (n : ℕ) → Sends n old new → IsRightfulLine now stations found_on link number old → IsRightfulLine now stations found_on link number new
  sent_line old new n sends right = record {
    waits = subst (λ l. IsRightful now stations found_on link number l) (sym sends.left) (left_of old.out.items (min n (length old.out.items)) right.waits);
    noted = subst (λ o. IsNotedIf now stations found_on link number o new) (sym (ap (λ (l : DeviceConnection). l.asked) sends.same)) (go old.asked right.noted);
  }
    where
      go : (o : Option Asked) → IsNotedIf now stations found_on link number o old → IsNotedIf now stations found_on link number o new
      go None noted = tt
      go (Some asked) noted = record {
        over = noted.over;
        wait = noted.wait;
        waits = ap (λ (l : DeviceConnection). l.pending.wait) sends.same ∙ noted.waits;
        made = noted.made;
        address = noted.address;
        words = noted.words;
        gone = noted.gone ++ take (min n (length old.out.items)) old.out.items;
        whole = ap (λ l. (noted.gone ++ take (min n (length old.out.items)) old.out.items) ++ l) sends.left
            ∙ (append_assoc noted.gone (take (min n (length old.out.items)) old.out.items) (drop (min n (length old.out.items)) old.out.items)
            ∙ (ap (λ l. noted.gone ++ l) (take-append-drop (min n (length old.out.items)) old.out.items) ∙ noted.whole));
      }

  heard_line : (old new : DeviceConnection) (bytes left : List ℕ) (fate : Option RequestEnd) → Hears bytes left fate old new → IsRightfulLine now stations found_on link number old → IsRightfulLine now stations found_on link number new
  heard_line old new bytes left fate hears right = record {
    waits = subst (λ l. IsRightful now stations found_on link number l) (sym hears.same) right.waits;
    noted = subst (λ o. IsNotedIf now stations found_on link number o new) (sym hears.asked) (go fate old.asked (old.is_up && not old.is_bad) hears.takes right.noted);
  }
    where
      goes_on : (asked : Asked) (w : Wait) → new.pending.wait ≡ Some w → (noted : IsNoted now stations found_on link number asked old) → w.asked ≡ noted.wait.asked → IsNoted now stations found_on link number asked new
      goes_on asked w waits noted same = record {
        over = noted.over;
        wait = w;
        waits = waits;
        made = subst (λ (r : FrameRequest). IsMade now stations found_on link number asked.aim asked.device r) (sym same) noted.made;
        address = noted.address ∙ ap (λ (r : FrameRequest). address_of r.request) (sym same);
        words = noted.words ∙ ap (λ (r : FrameRequest). words_of r.request) (sym same);
        gone = noted.gone;
        whole = ap (λ l. noted.gone ++ l) hears.same ∙ (noted.whole ∙ ap (λ (r : FrameRequest). frame_bytes (frame_of r)) (sym same));
      }

      go : (f : Option RequestEnd) (o : Option Asked) (well : Bool) → TakesWhere well old.pending bytes left f new.pending → IsNotedIf now stations found_on link number o old
          → IsNotedIf now stations found_on link number (left_under_way f o) new
      go (Some told) o well takes noted = tt
      go None None well takes noted = tt
      go None (Some asked) true takes noted =
          let after = still_waits old.pending new.pending bytes left noted.wait noted.waits takes in
          goes_on asked after.0 after.1 noted after.2
      go None (Some asked) false takes noted = goes_on asked noted.wait (ap (λ (h : Pending). h.wait) takes.2 ∙ noted.waits) noted refl

  begun_line : (old new : DeviceConnection) (begins : Begins old new) → begins.asked.number ≡ number → slice_get stations begins.asked.device ≡ Some (record { link = link; unit = begins.request.unit })
      → Reached now → MayBeAsked now found_on number begins.asked.aim begins.asked.device begins.request.request
      → begins.asked.address ≡ address_of begins.request.request → begins.asked.words ≡ words_of begins.request.request → IsRightfulLine now stations found_on link number new
  begun_line old new begins over station reached asked address words =
      let made : IsMade now stations found_on link number begins.asked.aim begins.asked.device begins.request = record {
        station = station;
        core = now;
        reached = reached;
        since = course.goes (stays now);
        asked = asked;
      } in
      record {
        waits = inr (record { device = begins.asked.device; made_for = begins.asked.aim; frame = begins.request; made = made; gone = []; whole = begins.frame });
        noted = subst (λ o. IsNotedIf now stations found_on link number o new) (sym begins.noted) (record {
          over = over;
          wait = record { asked = begins.request; may_drop = most_dropped };
          waits = ap (λ (h : Pending). h.wait) begins.under_way;
          made = made;
          address = address;
          words = words;
          gone = [];
          whole = begins.frame;
        });
      }

-- ---- all lines

module _ (now : Gateway) (stations : List Station) (numbers : List ℕ) (found_on : List (Option ℕ)) (lines : List DeviceConnection) where
  pub all_cut : All IsCut lines → AreRightful now stations numbers found_on lines
  all_cut cut link number line has at =
      let is : get_or lines link line ≡ line = get_or_from_slice_get lines link line line at in
      ∣ cut_line now stations found_on link number line (subst IsCut is (All-get_or IsCut lines link line (slice_get_within lines link line at) cut)) ∣₁

  pub with_line : (link : ℕ) (new : DeviceConnection) → AreRightful now stations numbers found_on lines
      → ((number : ℕ) → slice_get numbers link ≡ Some number → ∥ IsRightfulLine now stations found_on link number new ∥₁) → AreRightful now stations numbers found_on (set lines link new)
  with_line link new before own k number line has at = go (set-cases lines link new k line at)
    where
      go : ((k ≡ link) × (line ≡ new)) ⊎ ((k ≢ link) × (slice_get lines k ≡ Some line)) → ∥ IsRightfulLine now stations found_on k number line ∥₁
      go (inl (here, is)) = subst (λ (x : DeviceConnection). ∥ IsRightfulLine now stations found_on k number x ∥₁) (sym is) (subst (λ i. ∥ IsRightfulLine now stations found_on i number new ∥₁) (sym here) (own number (ap (slice_get numbers) (sym here) ∙ has)))
      go (inr (other, same)) = before k number line has same

  with_step : (link : ℕ) (old new : DeviceConnection) → AreRightful now stations numbers found_on lines → slice_get lines link ≡ Some old
      → ((number : ℕ) → IsRightfulLine now stations found_on link number old → IsRightfulLine now stations found_on link number new) → AreRightful now stations numbers found_on (set lines link new)
  with_step link old new before at step = with_line link new before (λ number has. ∥∥₁_elim (before link number old has at) ∥∥₁_prop (λ right. ∣ step number right ∣₁))

  pub with_kept : (link : ℕ) (old new : DeviceConnection) → AreRightful now stations numbers found_on lines → slice_get lines link ≡ Some old → Keeps old new → AreRightful now stations numbers found_on (set lines link new)
  with_kept link old new before at keeps = with_step link old new before at (λ number right. kept_line now stations found_on link number old new keeps.still keeps.heard keeps.same right)

  pub with_dialled : (link until : ℕ) (old new : DeviceConnection) → AreRightful now stations numbers found_on lines → slice_get lines link ≡ Some old → new ≡ dialled until old → AreRightful now stations numbers found_on (set lines link new)
  with_dialled link until old new before at is = with_step link old new before at (λ number right.
      kept_line now stations found_on link number old new (ap (λ (l : DeviceConnection). l.asked) is ∙ still_asked until old) (ap (λ (l : DeviceConnection). l.pending) is ∙ still_pending until old) (ap (λ (l : DeviceConnection). l.out.items) is ∙ still_out until old) right)

  pub with_given_up : (link : ℕ) (old new : DeviceConnection) → AreRightful now stations numbers found_on lines → slice_get lines link ≡ Some old → GivesUp old new → AreRightful now stations numbers found_on (set lines link new)
  with_given_up link old new before at gives = with_step link old new before at (λ number right. given_up_line now stations found_on link number old new gives right)

  pub with_sent : (link n : ℕ) (old new : DeviceConnection) → AreRightful now stations numbers found_on lines → slice_get lines link ≡ Some old → Sends n old new → AreRightful now stations numbers found_on (set lines link new)
  with_sent link n old new before at sends = with_step link old new before at (λ number right. sent_line now stations found_on link number old new n sends right)

  pub with_heard : (link : ℕ) (bytes left : List ℕ) (fate : Option RequestEnd) (old new : DeviceConnection) → AreRightful now stations numbers found_on lines → slice_get lines link ≡ Some old → Hears bytes left fate old new
      → AreRightful now stations numbers found_on (set lines link new)
  with_heard link bytes left fate old new before at hears = with_step link old new before at (λ number right. heard_line now stations found_on link number old new bytes left fate hears right)

  pub with_cut : (link : ℕ) (new : DeviceConnection) → AreRightful now stations numbers found_on lines → IsCut new → AreRightful now stations numbers found_on (set lines link new)
  with_cut link new before cut = with_line link new before (λ number has. ∣ cut_line now stations found_on link number new cut ∣₁)

  -- a request begins that may be asked over the connection that the link has now
  pub with_begun : (link unit : ℕ) (asked : Asked) (request : Request) (old new : DeviceConnection) → AreRightful now stations numbers found_on lines → ∥ Reached now ∥₁
      → slice_get numbers link ≡ Some asked.number → slice_get stations asked.device ≡ Some (record { link = link; unit = unit }) → MayGoOver now numbers found_on link asked.aim asked.device request
      → asked.address ≡ address_of request → asked.words ≡ words_of request → ((begins : Begins old new) × (begins.asked ≡ asked) × (begins.request.unit ≡ unit) × (begins.request.request ≡ request)) → AreRightful now stations numbers found_on (set lines link new)
  with_begun link unit asked request old new before reached numbered station may address words (begins, is, at_unit, own) = with_line link new before (λ number has.
      let same : asked.number ≡ number = same_number numbered has in
      ∥∥₁_elim reached ∥∥₁_prop (λ r. ∥∥₁_elim (may number has) ∥∥₁_prop (λ m. ∣ begun_line now stations found_on link number old new begins (ap (λ (x : Asked). x.number) is ∙ same)
      (subst (λ (x : Asked). slice_get stations x.device ≡ Some (record { link = link; unit = begins.request.unit })) (sym is) (station ∙ ap (λ u. Some (record { link = link; unit = u })) (sym at_unit)))
      r (subst (λ (x : Asked). MayBeAsked now found_on number x.aim x.device begins.request.request) (sym is) (subst (λ q. MayBeAsked now found_on number asked.aim asked.device q) (sym own) m))
      (ap (λ (x : Asked). x.address) is ∙ (address ∙ ap address_of (sym own))) (ap (λ (x : Asked). x.words) is ∙ (words ∙ ap words_of (sym own))) ∣₁)))

  -- ---- a new connection, on which nothing waits

  pub with_next : (link next : ℕ) → AreRightful now stations numbers found_on lines → ((line : DeviceConnection) → slice_get lines link ≡ Some line → IsCut line) → AreRightful now stations (set numbers link next) found_on lines
  with_next link next before cut k number line has at = go (set-cases numbers link next k number has)
    where
      go : ((k ≡ link) × (number ≡ next)) ⊎ ((k ≢ link) × (slice_get numbers k ≡ Some number)) → ∥ IsRightfulLine now stations found_on k number line ∥₁
      go (inl (here, is)) = ∣ cut_line now stations found_on k number line (cut line (ap (slice_get lines) (sym here) ∙ at)) ∣₁
      go (inr (other, same)) = before k number line same at

  -- ---- where a map is found over the connection that stands

  pub with_found : (link device unit number : ℕ) → AreRightful now stations numbers found_on lines
      → slice_get stations device ≡ Some (record { link = link; unit = unit }) → slice_get numbers link ≡ Some number → AreRightful now stations numbers (set found_on device (Some number)) lines
  with_found link device unit number before station here k other line has at = ∥∥₁_elim (before k other line has at) ∥∥₁_prop (λ right. ∣ record {
    waits = bytes right.waits;
    noted = noted line.asked right.noted;
  } ∣₁)
    where
      made : (made_for : Aim) (asked_of : ℕ) (frame : FrameRequest) → IsMade now stations found_on k other made_for asked_of frame → IsMade now stations (set found_on device (Some number)) k other made_for asked_of frame
      made made_for asked_of frame m = record { station = m.station; core = m.core; reached = m.reached; since = m.since; asked = asked m.asked }
        where
          still : IsFoundOn found_on other asked_of → ((eqb asked_of device ≡ true) × (asked_of ≡ device)) ⊎ ((eqb asked_of device ≡ false) × (asked_of ≢ device)) → IsFoundOn (set found_on device (Some number)) other asked_of
          still found (inr differs) = set_other found_on device asked_of (Some number) differs.1 ∙ found
          still found (inl same) =
              let stands : record { link = k; unit = frame.unit } ≡ record { link = link; unit = unit } = same_station m.station station (ap (slice_get stations) same.1) in
              let where_is : k ≡ link = ap (λ (s : Station). s.link) stands in
              let is : other ≡ number = same_number has (ap (slice_get numbers) where_is ∙ here) in
              ap (slice_get (set found_on device (Some number))) same.1
              ∙ (some_within found_on device (Some other) (Some number) (ap (slice_get found_on) (sym same.1) ∙ found) ∙ ap (λ x. Some (Some x)) (sym is))

          asked : MayBeAsked m.core found_on other made_for asked_of frame.request → MayBeAsked m.core (set found_on device (Some number)) other made_for asked_of frame.request
          asked (inl (round, found)) = inl (round, still found (eqb_tells asked_of device))
          asked (inr sought) = inr sought

      bytes : IsRightful now stations found_on k other line.out.items → IsRightful now stations (set found_on device (Some number)) k other line.out.items
      bytes (inl none) = inl none
      bytes (inr rest) = inr (record {
        device = rest.device;
        made_for = rest.made_for;
        frame = rest.frame;
        made = made rest.made_for rest.device rest.frame rest.made;
        gone = rest.gone;
        whole = rest.whole;
      })

      noted : (o : Option Asked) → IsNotedIf now stations found_on k other o line → IsNotedIf now stations (set found_on device (Some number)) k other o line
      noted None n = tt
      noted (Some asked) n = record {
        over = n.over;
        wait = n.wait;
        waits = n.waits;
        made = made asked.aim asked.device n.wait.asked n.made;
        address = n.address;
        words = n.words;
        gone = n.gone;
        whole = n.whole;
      }

-- ---- what waits on one of them

pub waits_on : (now : Gateway) (lines : Connections) (link : ℕ) (line : DeviceConnection) (bytes : List ℕ) → AreRightfulBy now lines → slice_get lines.lines.items link ≡ Some line → bytes ≡ line.out.items → IsRightfulOn now lines link bytes
waits_on now lines link line bytes before at is number has = ∥∥₁_elim (before link number line has at) ∥∥₁_prop (λ right.
    ∣ subst (λ l. IsRightful now lines.links.stations.items lines.found_on.items link number l) (sym is) right.waits ∣₁)

-- ---- the state goes on

-- whatever led to the one state leads to the other
abbrev Further : Gateway → Gateway → Type 0
Further old new = (from : Gateway) → GoesOn from old → ∥ GoesOn from new ∥₁

module _ (old new : Gateway) (stations : List Station) (found_on : List (Option ℕ)) (link number : ℕ) (goes : Further old new) where
  made_since : (made_for : Aim) (device : ℕ) (frame : FrameRequest) → IsMade old stations found_on link number made_for device frame → ∥ IsMade new stations found_on link number made_for device frame ∥₁
  made_since made_for device frame m = ∥∥₁_elim (goes m.core m.since) ∥∥₁_prop (λ since. ∣ record { station = m.station; core = m.core; reached = m.reached; since = since; asked = m.asked } ∣₁)

  pub right_since : (bytes : List ℕ) → IsRightful old stations found_on link number bytes → ∥ IsRightful new stations found_on link number bytes ∥₁
  right_since bytes (inl none) = ∣ inl none ∣₁
  right_since bytes (inr rest) = ∥∥₁_elim (made_since rest.made_for rest.device rest.frame rest.made) ∥∥₁_prop (λ made. ∣ inr (record {
    device = rest.device;
    made_for = rest.made_for;
    frame = rest.frame;
    made = made;
    gone = rest.gone;
    whole = rest.whole;
  }) ∣₁)

  noted_since : (line : DeviceConnection) (o : Option Asked) → IsNotedIf old stations found_on link number o line → ∥ IsNotedIf new stations found_on link number o line ∥₁
  noted_since line None n = ∣ tt ∣₁
  noted_since line (Some asked) n = ∥∥₁_elim (made_since asked.aim asked.device n.wait.asked n.made) ∥∥₁_prop (λ made. ∣ record {
    over = n.over;
    wait = n.wait;
    waits = n.waits;
    made = made;
    address = n.address;
    words = n.words;
    gone = n.gone;
    whole = n.whole;
  } ∣₁)

  line_since : (line : DeviceConnection) → IsRightfulLine old stations found_on link number line → ∥ IsRightfulLine new stations found_on link number line ∥₁
  line_since line right = ∥∥₁_elim (right_since line.out.items right.waits) ∥∥₁_prop (λ waits. ∥∥₁_elim (noted_since line line.asked right.noted) ∥∥₁_prop (λ noted. ∣ record { waits = waits; noted = noted } ∣₁))

right_further : (old new : Gateway) (lines : Connections) → Further old new → AreRightfulBy old lines → AreRightfulBy new lines
right_further old new lines goes before link number line has at = ∥∥₁_elim (before link number line has at) ∥∥₁_prop (λ right.
    line_since old new lines.links.stations.items lines.found_on.items link number goes line right)

pub right_by : (Kinds : Event → Type 0) (old new : Gateway) (lines : Connections) → LeadsOnBy Kinds old new → AreRightfulBy old lines → AreRightfulBy new lines
right_by Kinds old new lines goes before = right_further old new lines (λ from led. goes_behind Kinds from old new led goes) before

-- another program is put in
pub right_adopting : (old new : Gateway) (lines : Connections) (machine : Running) → HasLinks old.site.tags machine.accepted.links → new ≡ adopting machine old → AreRightfulBy old lines → AreRightfulBy new lines
right_adopting old new lines machine links is before =
    right_further old new lines (λ from led. ∣ course.adopts led machine links new (subst (Goes (adopting machine old)) (sym is) (stays (adopting machine old))) ∣₁) before

pub right_on : (old new : Gateway) (lines : Connections) → LeadsOnBy IsOfRounds old new → AreRightfulBy old lines → AreRightfulBy new lines
right_on old new lines goes before = right_by IsOfRounds old new lines goes before

pub right_behind_clients : (old new : Gateway) (lines : Connections) → LeadsOnBy IsOfClients old new → AreRightfulBy old lines → AreRightfulBy new lines
right_behind_clients old new lines goes before = right_by IsOfClients old new lines goes before

pub with_begun_if : (now : Gateway) (stations : List Station) (numbers : List ℕ) (found_on : List (Option ℕ)) (lines : List DeviceConnection) (link unit : ℕ) (asked : Asked) (request : Request) (old new : DeviceConnection) (did : Bool)
    → AreRightful now stations numbers found_on lines → ∥ Reached now ∥₁ → slice_get numbers link ≡ Some asked.number → slice_get stations asked.device ≡ Some (record { link = link; unit = unit })
    → MayGoOver now numbers found_on link asked.aim asked.device request → asked.address ≡ address_of request → asked.words ≡ words_of request → slice_get lines link ≡ Some old
    → (IsTrue did → (begins : Begins old new) × (begins.asked ≡ asked) × (begins.request.unit ≡ unit) × (begins.request.request ≡ request)) → (did ≡ false → new ≡ old)
    → AreRightful now stations numbers found_on (set lines link new)
with_begun_if now stations numbers found_on lines link unit asked request old new true before reached numbered station may address words is begun none =
    with_begun now stations numbers found_on lines link unit asked request old new before reached numbered station may address words (begun refl)
with_begun_if now stations numbers found_on lines link unit asked request old new false before reached numbered station may address words is begun none =
    subst (λ (l : List DeviceConnection). AreRightful now stations numbers found_on l) (sym (unchanged lines link old new is (none refl))) before
