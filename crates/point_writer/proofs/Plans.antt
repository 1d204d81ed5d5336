-- What is written of a tag is a set point, the only one, and what isn't has none.
use Rattle.site_model.specs.declared.access.Access.{Access}
use Rattle.site_model.specs.declared.access.Access.TheVariants as access
use Rattle.std.proofs.Common.{◌≡◌, ℕ, Bool, true, false, IsTrue, List, ℤ, ◌≤ℤ◌, Option, Some, None, Result, Ok, Err, refl, sym, ap, subst, ◌∙◌}
use Rattle.point_types.specs.declared.kind.Kind.{Kind}
use Rattle.point_types.specs.declared.reading.Reading.TheVariants as reading
use Rattle.point_types.specs.declared.encoding.Unencodable.{Unencodable}
use Rattle.point_types.specs.declared.encoding.Unencodable.TheVariants as unencodable
use Rattle.point_types.specs.Point.{StandsFor}
use Rattle.point_types.specs.Reading.{IsScaled, ReadsBy, factor_of}
use Rattle.point_types.specs.Encoding.{EncodesBy, IsEncoding}
use Rattle.point_types.proofs.RoundTrips.{at_most_one_encoding}
use Rattle.register_map.specs.Layout.{Layout}
use Rattle.site_model.specs.declared.tag.SiteTag.{SiteTag}
use Rattle.site_model.specs.Tag.{may_write}
use Rattle.site_model.specs.declared.want.Want.{Want}
use Rattle.point_writer.specs.declared.write.Write.{Write}
use Rattle.point_writer.specs.declared.write.NoWrite.{NoWrite}
use Rattle.point_writer.specs.declared.write.NoWrite.TheVariants as refusal
use Rattle.point_writer.specs.Fault.{no_write_of}
use Rattle.point_writer.specs.SetPoint.{PointPlace, place_of, SetsAt, IsSetPoint, IsPlanAt, IsPlan}
use Rattle.point_writer.specs.Fitting.{NoneGoesOut}
use Rattle.point_writer.specs.Outgoing.{IsSaidFor}
use Rattle.point_writer.specs.declared.fitting.SaidNumber.{SaidNumber}
use Rattle.point_writer.specs.Laws.{AtMostOneSetPoint, RefusedHasNoSetPoint}
use Rattle.point_writer.proofs.Fitted.{goes_said, one_goes_out}

-- words that encode a number are those that read as it
read_back : (k : Kind) (v e low high : ℤ) (o : Option ℤ) (ws : List ℕ) → low ≤ℤ v → v ≤ℤ high → EncodesBy k v e o (Ok ws) → (raw : ℤ) × StandsFor k ws raw × ReadsBy IsScaled raw o e low high (reading.Value v)
read_back k v e low high None ws l m h = cc
read_back k v e low high (Some s) ws l m h = (h.0, h.1, (h.2, l, m))

encoded : (k : Kind) (v e low high raw : ℤ) (o : Option ℤ) (ws : List ℕ) → StandsFor k ws raw → ReadsBy IsScaled raw o e low high (reading.Value v) → EncodesBy k v e o (Ok ws)
encoded k v e low high raw None ws s h = cc
encoded k v e low high raw (Some f) ws s h = (raw, s, h.0)

pub plan-at : (maps : List (Option Layout)) (wants : List Want) (blocks : List (Option (List ℕ))) (t : SiteTag) (v : ℤ) (o : Option ℤ) (place : PointPlace) (r : Result Write NoWrite) →
    o ≡ Some v → Some place ≡ place_of maps wants blocks t → IsPlanAt (Some place) t v r → IsPlan maps wants blocks t o r
plan-at maps wants blocks t v o place r e p h =
    let a = subst (λ (q : Option PointPlace). IsPlanAt q t v r) p h in
    subst (λ (x : Option ℤ). IsPlan maps wants blocks t x r) (sym e) a

pub sets-at : (place : PointPlace) (t : SiteTag) (v : ℤ) (w : Write) (out : SaidNumber) → w.device ≡ place.device → w.addr ≡ place.addr → w.words ≡ out.words → IsSaidFor t place.factor v out → SetsAt place t v w
sets-at place t v w out d a u h =
    let c = goes_said t place.factor v out.number h.goes in
    let x = read_back t.point out.number t.exponent t.low t.high (factor_of place.factor) out.words c.low c.high h.words in
    record { device = d; addr = a; number = out.number; out = h.goes; raw = x.0; stands = subst (λ ws. StandsFor t.point ws x.0) (sym u) x.1; reads = x.2 }

pub refused-at : (place : PointPlace) (t : SiteTag) (v : ℤ) (fault : Unencodable) (r : NoWrite) → r ≡ no_write_of fault → NoneGoesOut t place.factor v fault → IsPlanAt (Some place) t v (Err r)
refused-at place t v fault r e h = subst (λ (x : NoWrite). IsPlanAt (Some place) t v (Err x)) (sym e) (go fault h)
  where
    go : (f : Unencodable) → NoneGoesOut t place.factor v f → IsPlanAt (Some place) t v (Err (no_write_of f))
    go unencodable.BadScale k = k
    go unencodable.Inexact k = k
    go unencodable.OutOfType k = k

-- the words of a set point are an encoding
words-encode : (place : PointPlace) (t : SiteTag) (v : ℤ) (w : Write) (s : SetsAt place t v w) → IsEncoding t.point s.number t.exponent place.factor (Ok w.words)
words-encode place t v w s = encoded t.point s.number t.exponent t.low t.high s.raw (factor_of place.factor) w.words s.stands s.reads

pub same_ok : {ws us : List ℕ} → ◌≡◌ {A = Result (List ℕ) Unencodable} (Ok ws) (Ok us) → ws ≡ us
same_ok e = cc

abbrev made : ℕ → ℕ → List ℕ → Write
made device addr words = record { device = device; addr = addr; words = words }

same_made : (d e a b : ℕ) (ws us : List ℕ) → d ≡ e → a ≡ b → ws ≡ us → made d a ws ≡ made e b us
same_made d e a b ws us p q r = ap (λ n. made n a ws) p ∙ ap (λ n. made e n ws) q ∙ ap (λ x. made e b x) r

same_write : (w x : Write) → w.device ≡ x.device → w.addr ≡ x.addr → w.words ≡ x.words → w ≡ x
same_write w x p q r = same_made w.device x.device w.addr x.addr w.words x.words p q r

same_place : {a b : PointPlace} {o : Option PointPlace} → o ≡ Some a → o ≡ Some b → b ≡ a
same_place p q = cc

pub at_most_one : AtMostOneSetPoint
at_most_one maps wants blocks t v w x h k =
    let e = same_place {a = h.place} {b = k.place} h.placed k.placed in
    let s = subst (λ (p : PointPlace). SetsAt p t v x) e k.sets in
    let n = one_goes_out t h.place.factor v s.number h.sets.number s.out h.sets.out in
    let y = subst (λ m. IsEncoding t.point m t.exponent h.place.factor (Ok x.words)) n (words-encode h.place t v x s) in
    let u = at_most_one_encoding t.point h.sets.number t.exponent h.place.factor (Ok w.words) (Ok x.words) (words-encode h.place t v w h.sets) y in
    same_write w x (h.sets.device ∙ sym s.device) (h.sets.addr ∙ sym s.addr) (same_ok u)

pub refused_has_none : RefusedHasNoSetPoint
refused_has_none maps wants blocks t v e w h s = go e (subst (λ (p : Option PointPlace). IsPlanAt p t v (Err e)) s.placed h)
  where
    go : (x : NoWrite) → IsPlanAt (Some s.place) t v (Err x) → ⊥
    go refusal.NotSet k = k
    go refusal.NoBlock k = k
    go refusal.With k = k
    go refusal.BadScale k = k.none s.sets.number s.sets.out
    go refusal.Inexact k = k.none s.sets.number s.sets.out
    go refusal.OutOfType k = k.none s.sets.number s.sets.out

-- the point of a tag that is written to a device can be written
writes_writable : (a : Access) (w : Bool) → IsTrue (may_write a w) → a ≡ access.Output → w ≡ true
writes_writable a true h e = refl
writes_writable access.Output false h e = cc
writes_writable access.Input false h e = cc
writes_writable access.Setting false h e = cc
writes_writable access.Shown false h e = cc
writes_writable access.Time false h e = cc

-- what is written is a set point
pub writes-set_point : (maps : List (Option Layout)) (wants : List Want) (blocks : List (Option (List ℕ))) (t : SiteTag) (o : Option ℤ) (w : Write) → t.access ≡ access.Output →
    IsPlan maps wants blocks t o (Ok w) → (v : ℤ) × (o ≡ Some v) × IsSetPoint maps wants blocks t v w
writes-set_point maps wants blocks t None w a h = cc
writes-set_point maps wants blocks t (Some v) w a h = (v, refl, go (place_of maps wants blocks t) refl h)
  where
    go : (p : Option PointPlace) → place_of maps wants blocks t ≡ p → IsPlanAt p t v (Ok w) → IsSetPoint maps wants blocks t v w
    go None e k = cc
    go (Some place) e k = record { output = a; writable = writes_writable t.access t.writable t.writes a; place = place; placed = e; sets = k }
