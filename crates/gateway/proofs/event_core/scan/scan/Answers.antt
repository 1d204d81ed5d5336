use Rattle.std.proofs.Common.{◌≡◌, ◌∙◌, ℕ, List, length, map, sym, ap, subst, arith, rules}
use Rattle.std.specs.Prelude.{ℤ, Option}
use Rattle.std.specs.Vec.{with_items}
use Rattle.std.proofs.lemmas.List.{with_items_is}
use Rattle.point_types.specs.declared.reading.Reading.{Reading}
use Rattle.scan_code.specs.Machine.{Ended, run, opening}
use Rattle.scan_vm.specs.Machine.{Scans}
use Rattle.site_model.specs.Readings.{AreReadings, AreSettings}
use Rattle.verifier.specs.declared.tag_link.TagLink.{TagLink}
use Rattle.verifier.specs.Verified.{Acceptance, HasLinks}
use Rattle.gateway.specs.event_core.Core.{number_of}
use Rattle.gateway.specs.event_core.SiteRun.{none_of, reading_at}
use Rattle.gateway.proofs.Filling.{map_map}
use Rattle.gateway.proofs.Scanning.{inputs_fit, stored_in, none_in, same_made, stored_same}
use Rattle.gateway.proofs.event_core.scan.scan.Goals as goal

pub readings-requires-clause-settings : goal.readings-requires-clause-settings
readings-requires-clause-settings g c = rw c.deref-2.ensures.value c.requires.known.ranged

pub run_once-known-requires : goal.run_once-known-requires
run_once-known-requires g c =
    let known = c.args.known.now in
    let tags = c.args.site.now.tags in
    let links = c.args.machine.now.accepted.links in
    let sized : length c.readings.new.into ≡ length tags = omega (arith, c.readings.auto.into, ap length c.deref_mut.ensures.value, c.requires.known.readings) in
    let er : (with_items known.readings c.readings.new.into).items ≡ c.readings.new.into = with_items_is known.readings c.readings.new.into (omega (arith, c.readings.auto.into, c.deref_mut.ensures.len)) in
    let e1 : c.links.result.now ≡ links = c.links.ensures ∙ ap (λ a. a.links) c.verified.ensures in
    let e2 : c.deref-3.result.now ≡ c.readings.new.into = c.deref-3.ensures.value ∙ er in
    let e3 : c.gather.new.inputs ≡ map (reading_at c.readings.new.into) (map number_of links) =
    c.gather.ensures.inputs ∙ ap (λ (rs : List Reading). map (λ (link : TagLink). reading_at rs (number_of link)) c.links.result.now) e2 ∙ ap (λ (ls : List TagLink). map (λ link. reading_at c.readings.new.into (number_of link)) ls) e1 ∙ sym (map_map (reading_at c.readings.new.into) number_of links) in (
      search rules,
      (
        c.gather.ensures.len ∙ c.requires.inputs ∙ c.requires.linked,
        λ t. rw e3 (inputs_fit tags c.readings.new.into c.readings.ensures.usable sized links c.requires.matched t),
      ),
    )

pub returns-clause-scan : goal.returns-clause-scan
returns-clause-scan g c =
    let known = c.args.known.now in
    let tags = c.args.site.now.tags in
    let m = c.args.machine.now in
    let links = m.accepted.links in
    let k = c.run_once-known.ensures.scan in
    let sized : length c.readings.new.into ≡ length tags = omega (arith, c.readings.auto.into, ap length c.deref_mut.ensures.value, c.requires.known.readings) in
    let er : (with_items known.readings c.readings.new.into).items ≡ c.readings.new.into = with_items_is known.readings c.readings.new.into (omega (arith, c.readings.auto.into, c.deref_mut.ensures.len)) in
    let e1 : c.links.result.now ≡ links = c.links.ensures ∙ ap (λ a. a.links) c.verified.ensures in
    let e2 : c.deref-3.result.now ≡ c.readings.new.into = c.deref-3.ensures.value ∙ er in
    let e3 : c.gather.new.inputs ≡ map (reading_at c.readings.new.into) (map number_of links) =
    c.gather.ensures.inputs ∙ ap (λ (rs : List Reading). map (λ (link : TagLink). reading_at rs (number_of link)) c.links.result.now) e2 ∙ ap (λ (ls : List TagLink). map (λ link. reading_at c.readings.new.into (number_of link)) ls) e1 ∙ sym (map_map (reading_at c.readings.new.into) number_of links) in
    let eo : (with_items known.outputs c.scatter.new.outputs).items ≡ c.scatter.new.outputs = with_items_is known.outputs c.scatter.new.outputs (omega (arith, c.scatter.ensures.len, c.deref_mut-2.ensures.len)) in
    let eb : (with_items known.scanned c.copy_blocks.new.into).items ≡ c.copy_blocks.new.into = with_items_is known.scanned c.copy_blocks.new.into (omega (arith, c.copy_blocks.auto.into, c.deref_mut-3.ensures.len)) in
    let outputs_len : length c.deref_mut-2.result.now ≡ length tags = ap length c.deref_mut-2.ensures.value ∙ c.requires.known.outputs in
    record {
      readings = c.readings.new.into;
      each = sized;
      read = subst (λ (bs : List (Option (List ℕ))). AreReadings tags c.args.site.now.wants bs known.sets.items known.elapsed c.readings.new.into) c.deref.ensures.value
          (subst (λ (ss : List (Option ℤ)). AreReadings tags c.args.site.now.wants c.deref.result.now ss known.elapsed c.readings.new.into) c.deref-2.ensures.value c.readings.ensures.readings);
      steps = c.run_once-known.result;
      end = k.last;
      ended = subst (λ (rs : List Reading). run m.accepted.image rs 0 m.accepted.budget (opening m.accepted.image m.variables) ≡ Ended c.run_once-known.result k.last) e3 k.ends;
      bounded = k.bounded;
      after = same_made c.run_once-known.result known.blocks.items known.sets.items known.ages.items _ c.readings.new.into c.run_once-known.new.machine.variables k.last.variables _ _ _
          (ap (λ r. r.variables) k.after)
          (eo ∙ c.scatter.ensures.stored ∙ stored_same c.run_once-known.new.machine.accepted m.accepted c.run_once-known.new.machine.outputs k.last.outputs c.deref_mut-2.result.now tags (ap (λ r. r.accepted) k.after) (ap (λ r. r.outputs) k.after) outputs_len)
          er
          (eb ∙ c.copy_blocks.ensures ∙ c.deref-4.ensures.value);
    }

pub returns-clause-machine : goal.returns-clause-machine
returns-clause-machine g c =
    let known = c.args.known.now in
    let m = c.args.machine.now in
    let links = m.accepted.links in
    let er : (with_items known.readings c.readings.new.into).items ≡ c.readings.new.into = with_items_is known.readings c.readings.new.into (omega (arith, c.readings.auto.into, c.deref_mut.ensures.len)) in
    let e1 : c.links.result.now ≡ links = c.links.ensures ∙ ap (λ a. a.links) c.verified.ensures in
    let e2 : c.deref-3.result.now ≡ c.readings.new.into = c.deref-3.ensures.value ∙ er in
    let e3 : c.gather.new.inputs ≡ map (reading_at c.readings.new.into) (map number_of links) =
    c.gather.ensures.inputs ∙ ap (λ (rs : List Reading). map (λ (link : TagLink). reading_at rs (number_of link)) c.links.result.now) e2 ∙ ap (λ (ls : List TagLink). map (λ link. reading_at c.readings.new.into (number_of link)) ls) e1 ∙ sym (map_map (reading_at c.readings.new.into) number_of links) in
    subst (λ (rs : List Reading). Scans g.row.DEPTH m rs c.run_once-known.result c.run_once-known.new.machine) (e3 ∙ ap (λ (rs : List Reading). map (reading_at rs) (map number_of links)) (sym er)) c.run_once-known.ensures.scan

pub returns-clause-known : goal.returns-clause-known
returns-clause-known g c =
    let known = c.args.known.now in
    let tags = c.args.site.now.tags in
    let k = c.run_once-known.ensures.scan in
    let sized : length c.readings.new.into ≡ length tags = omega (arith, c.readings.auto.into, ap length c.deref_mut.ensures.value, c.requires.known.readings) in
    let er : (with_items known.readings c.readings.new.into).items ≡ c.readings.new.into = with_items_is known.readings c.readings.new.into (omega (arith, c.readings.auto.into, c.deref_mut.ensures.len)) in
    let eo : (with_items known.outputs c.scatter.new.outputs).items ≡ c.scatter.new.outputs = with_items_is known.outputs c.scatter.new.outputs (omega (arith, c.scatter.ensures.len, c.deref_mut-2.ensures.len)) in
    let eb : (with_items known.scanned c.copy_blocks.new.into).items ≡ c.copy_blocks.new.into = with_items_is known.scanned c.copy_blocks.new.into (omega (arith, c.copy_blocks.auto.into, c.deref_mut-3.ensures.len)) in
    let matched = subst (λ (a : Acceptance). HasLinks tags a.links) (sym (ap (λ r. r.accepted) k.after)) c.requires.matched in
    record {
      blocks = c.requires.known.blocks;
      scanned = ap length (eb ∙ c.copy_blocks.ensures ∙ c.deref-4.ensures.value) ∙ c.requires.known.blocks;
      sets = c.requires.known.sets;
      ages = c.requires.known.ages;
      outputs = ap length eo ∙ c.scatter.ensures.len ∙ ap length c.deref_mut-2.ensures.value ∙ c.requires.known.outputs;
      readings = ap length er ∙ sized;
      ranged = c.requires.known.ranged;
      stored = subst (λ (os : List (Option ℤ)). AreSettings tags os) (sym (eo ∙ c.scatter.ensures.stored))
          (stored_in tags c.run_once-known.new.machine.accepted.links c.run_once-known.new.machine.outputs (none_of c.deref_mut-2.result.now) matched c.run_once-known.ensures.ranges.outputs (none_in tags c.deref_mut-2.result.now));
    }
