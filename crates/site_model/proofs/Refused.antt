-- The part of a site file that is refused, and what is read before it.
use Rattle.std.proofs.Common.{◌≡◌, ◌≢◌, inl, inr, ℕ, ◌+◌, ◌<◌, false, List, [], ◌∷◌, ◌++◌, map, length, get_or, drop, drop-cons, add-one, Some, Result, Ok, Err, IfErr, IsErrAnd, codes, refl, sym, ap, ◌∙◌, subst, length-append}
use Rattle.std.proofs.lemmas.List.{map-append}
use Rattle.toml.specs.Data.{Data, Items, Members, table, item}
use Rattle.toml.specs.Parse.{parse_document}
use Rattle.toml.specs.View.{view, items_view}
use Rattle.toml.specs.declared.value.Value.{Value}
use Rattle.model_defs.specs.declared.model.ModelDef.{ModelDef}
use Rattle.file_keys.proofs.InOrder.{GoesInOrder}
use Rattle.site_model.specs.Gateway.{Gateway, gateway_of}
use Rattle.site_model.specs.Devices.{device_of, devices_behind}
use Rattle.site_model.specs.Tagging.{Tag, tag_of, tags_behind}
use Rattle.site_model.specs.Serving.{served_of, served_behind}
use Rattle.site_model.specs.File.{devices_in, tags_in, served_in, section_in, has_long_section, has_many_models}
use Rattle.site_model.specs.Parts.{IsAtFault, IsDeviceRefused, IsServedRefused, IsTagRefused, IsTreeFault, IsUnpaired, IsUnread, in_companions, in_devices, in_served, in_tags}
use Rattle.site_model.specs.TagView.{tag_view}
use Rattle.site_model.specs.declared.device.SiteDevice.{SiteDevice}
use Rattle.site_model.specs.declared.served.Served.{Served}
use Rattle.site_model.specs.declared.tag.SiteTag.{SiteTag}
use Rattle.site_model.specs.declared.part.SitePart.{SitePart}
use Rattle.site_model.specs.declared.part.SitePart.TheVariants as parts
use Rattle.site_model.specs.declared.fault.SiteFault.{SiteFault}
use Rattle.site_model.specs.declared.fault.SiteFault.TheVariants as fault

-- ---- entries in order

pub devices_in_order : GoesInOrder devices_behind device_of (λ seen d. seen ++ d ∷ [])
devices_in_order = record { ends = λ seen. refl; goes = λ seen tree d trees good. rw good refl; fails = λ seen tree e trees bad. rw bad refl }

pub tags_in_order : (devices : List SiteDevice) (own defs : List ModelDef) → GoesInOrder (tags_behind devices own defs) (tag_of devices own defs) (λ seen t. seen ++ t ∷ [])
tags_in_order devices own defs = record { ends = λ seen. refl; goes = λ seen tree t trees good. rw good refl; fails = λ seen tree e trees bad. rw bad refl }

pub served_in_order : (own : List ModelDef) (tags : List Tag) → GoesInOrder (served_behind own tags) (served_of own tags) (λ seen s. seen ++ s ∷ [])
served_in_order own tags = record { ends = λ seen. refl; goes = λ seen tree s trees good. rw good refl; fails = λ seen tree e trees bad. rw bad refl }

next_of : {X : Type 0} (xs : List X) (i : ℕ) (x : X) → i < length xs → x ≡ get_or xs i x → drop i xs ≡ x ∷ drop (i + 1) xs
next_of xs i x within is = rw (drop-cons xs i x, add-one) (rw (← is) refl)

next_item : (vs : List Value) (i : ℕ) (v : Value) → i < length vs → v ≡ get_or vs i v → items_view (drop i vs) ≡ item (view v) (items_view (drop (i + 1) vs))
next_item vs i v within is = ap items_view (next_of vs i v within is)

-- what the later entries give after one more
pub rest_read :
    {A B E : Type 0} {read : A → Items → Result A E} {next : A → Data → Result B E} {more : A → B → A} → GoesInOrder read next more →
    (seen : A) (vs : List Value) (i : ℕ) (v : Value) (b : B) → i < length vs → v ≡ get_or vs i v → next seen (view v) ≡ Ok b →
    read seen (items_view (drop i vs)) ≡ read (more seen b) (items_view (drop (i + 1) vs))
rest_read order seen vs i v b within is good = rw (next_item vs i v within is) (order.goes seen (view v) b (items_view (drop (i + 1) vs)) good)

pub one_longer : {A : Type 0} (xs longer : List A) (x : A) (n : ℕ) → longer ≡ xs ++ x ∷ [] → length xs ≡ n → length longer ≡ n + 1
one_longer xs longer x n is e = ap length is ∙ length-append xs (x ∷ []) ∙ ap (λ k. k + 1) e

pub more_tags : (tags longer : List SiteTag) (t : SiteTag) → longer ≡ tags ++ t ∷ [] → map tag_view longer ≡ map tag_view tags ++ tag_view t ∷ []
more_tags tags longer t is = ap (map tag_view) is ∙ map-append tag_view tags (t ∷ [])

-- the fault that goes up is the one that came
pub told_of_fault : {T E : Type 0} (result : Result T E) (came : E) (Holds : E → Type 0) → IsErrAnd result (λ e. e ≡ came) → Holds came → IfErr result Holds
told_of_fault (Ok _) came Holds same h = tt
told_of_fault (Err e) came Holds same h = subst Holds (sym same) h

-- ---- the sections

pub devices_unlisted :
    (defs : List ModelDef) (doc : Data) (part : SitePart) (e : SiteFault) (g : Gateway) → gateway_of defs doc ≡ Ok g →
    part ≡ parts.File → section_in (codes "device") doc ≡ Err e → IsUnread defs doc part e
devices_unlisted defs doc part e g gateway is bad = in_devices g gateway (inl (is, bad))

pub devices_refused :
    (defs : List ModelDef) (doc : Data) (part : SitePart) (e : SiteFault) (g : Gateway) (entries : Items) → gateway_of defs doc ≡ Ok g →
    section_in (codes "device") doc ≡ Ok entries → IsDeviceRefused entries part e → IsUnread defs doc part e
devices_refused defs doc part e g entries gateway listed bad = in_devices g gateway (inr (entries, listed, bad))

devices_read : (doc : Data) (entries : Items) (devices : List SiteDevice) → section_in (codes "device") doc ≡ Ok entries → devices_behind [] entries ≡ Ok devices → devices_in doc ≡ Ok devices
devices_read doc entries devices listed are_read = rw listed are_read

pub tags_unlisted :
    (defs : List ModelDef) (doc : Data) (part : SitePart) (e : SiteFault) (g : Gateway) (entries : Items) (devices : List SiteDevice) → gateway_of defs doc ≡ Ok g →
    section_in (codes "device") doc ≡ Ok entries → devices_behind [] entries ≡ Ok devices →
    part ≡ parts.File → section_in (codes "tag") doc ≡ Err e → IsUnread defs doc part e
tags_unlisted defs doc part e g entries devices gateway listed are_read is bad = in_tags g devices gateway (devices_read doc entries devices listed are_read) (inl (is, bad))

pub tags_refused :
    (defs : List ModelDef) (doc : Data) (part : SitePart) (e : SiteFault) (g : Gateway) (entries tag_entries : Items) (devices found : List SiteDevice) (own : List ModelDef) → gateway_of defs doc ≡ Ok g →
    section_in (codes "device") doc ≡ Ok entries → devices_behind [] entries ≡ Ok devices → found ≡ devices → own ≡ g.models →
    section_in (codes "tag") doc ≡ Ok tag_entries → IsTagRefused found own defs tag_entries part e → IsUnread defs doc part e
tags_refused defs doc part e g entries tag_entries devices found own gateway listed are_read same_devices same_own tags_listed bad =
    let over = subst (λ ms. IsTagRefused found ms defs tag_entries part e) same_own bad in
    in_tags g devices gateway (devices_read doc entries devices listed are_read)
    (inr (tag_entries, tags_listed, subst (λ ds. IsTagRefused ds g.models defs tag_entries part e) same_devices over))

tags_read :
    (defs : List ModelDef) (doc : Data) (g : Gateway) (entries : Items) (devices found : List SiteDevice) (own : List ModelDef) (tags : List Tag) → found ≡ devices → own ≡ g.models →
    section_in (codes "tag") doc ≡ Ok entries → tags_behind found own defs [] entries ≡ Ok tags → tags_in defs g devices doc ≡ Ok tags
tags_read defs doc g entries devices found own tags same_devices same_own listed are_read =
    rw (listed, ← same_devices, ← same_own) are_read

pub served_unlisted :
    (defs : List ModelDef) (doc : Data) (part : SitePart) (e : SiteFault) (g : Gateway) (entries tag_entries : Items) (devices found : List SiteDevice) (own : List ModelDef) (tags : List Tag) → gateway_of defs doc ≡ Ok g →
    section_in (codes "device") doc ≡ Ok entries → devices_behind [] entries ≡ Ok devices → found ≡ devices → own ≡ g.models →
    section_in (codes "tag") doc ≡ Ok tag_entries → tags_behind found own defs [] tag_entries ≡ Ok tags →
    part ≡ parts.File → section_in (codes "served") doc ≡ Err e → IsUnread defs doc part e
served_unlisted defs doc part e g entries tag_entries devices found own tags gateway listed are_read same_devices same_own tags_listed tags_are_read is bad =
    in_served g devices tags gateway (devices_read doc entries devices listed are_read)
    (tags_read defs doc g tag_entries devices found own tags same_devices same_own tags_listed tags_are_read) (inl (is, bad))

pub served_refused :
    (defs : List ModelDef) (doc : Data) (part : SitePart) (e : SiteFault) (g : Gateway) (entries tag_entries served_entries : Items) (devices found : List SiteDevice) (own again : List ModelDef) (tags known : List SiteTag) → gateway_of defs doc ≡ Ok g →
    section_in (codes "device") doc ≡ Ok entries → devices_behind [] entries ≡ Ok devices → found ≡ devices → own ≡ g.models →
    section_in (codes "tag") doc ≡ Ok tag_entries → tags_behind found own defs [] tag_entries ≡ Ok (map tag_view tags) → again ≡ g.models → known ≡ tags →
    section_in (codes "served") doc ≡ Ok served_entries → IsServedRefused again (map tag_view known) served_entries part e → IsUnread defs doc part e
served_refused defs doc part e g entries tag_entries served_entries devices found own again tags known gateway listed are_read same_devices same_own tags_listed tags_are_read same_again same_tags served_listed bad =
    let over = subst (λ ms. IsServedRefused ms (map tag_view known) served_entries part e) same_again bad in
    in_served g devices (map tag_view tags) gateway (devices_read doc entries devices listed are_read)
    (tags_read defs doc g tag_entries devices found own (map tag_view tags) same_devices same_own tags_listed tags_are_read)
    (inr (served_entries, served_listed, subst (λ (ts : List SiteTag). IsServedRefused g.models (map tag_view ts) served_entries part e) same_tags over))

pub companions_refused :
    (defs : List ModelDef) (doc : Data) (part : SitePart) (e : SiteFault) (g : Gateway) (entries tag_entries served_entries : Items) (devices found : List SiteDevice) (own again : List ModelDef) (tags known last : List SiteTag) (served : List Served) → gateway_of defs doc ≡ Ok g →
    section_in (codes "device") doc ≡ Ok entries → devices_behind [] entries ≡ Ok devices → found ≡ devices → own ≡ g.models →
    section_in (codes "tag") doc ≡ Ok tag_entries → tags_behind found own defs [] tag_entries ≡ Ok (map tag_view tags) → again ≡ g.models → known ≡ tags →
    section_in (codes "served") doc ≡ Ok served_entries → served_behind again (map tag_view known) [] served_entries ≡ Ok served → last ≡ tags → IsUnpaired (map tag_view last) part e → IsUnread defs doc part e
companions_refused defs doc part e g entries tag_entries served_entries devices found own again tags known last served gateway listed are_read same_devices same_own tags_listed tags_are_read same_again same_tags served_listed served_are_read same_last bad =
    let over : served_in g (map tag_view tags) doc ≡ Ok served = rw (served_listed, ← same_again, ← same_tags) served_are_read in
    in_companions g devices (map tag_view tags) served gateway (devices_read doc entries devices listed are_read)
    (tags_read defs doc g tag_entries devices found own (map tag_view tags) same_devices same_own tags_listed tags_are_read) over
    (subst (λ (ts : List SiteTag). IsUnpaired (map tag_view ts) part e) same_last bad)

-- ---- the file

pub tree_refused :
    {T : Type 0} (defs : List ModelDef) (doc : Data) (part : SitePart) (result : Result T SiteFault) → has_many_models doc ≡ false → has_long_section doc ≡ false →
    IfErr result (λ e. e ≢ fault.OutOfMemory → IsUnread defs doc part e) → IfErr result (λ e. e ≢ fault.OutOfMemory → IsTreeFault defs doc part e)
tree_refused defs doc part (Ok _) few short h = tt
tree_refused defs doc part (Err e) few short h = λ real. inr (rw (few, short) refl, h real)

pub text_refused :
    {T : Type 0} (defs : List ModelDef) (text : List ℕ) (members : Members) (doc : Data) (part : SitePart) (result : Result T SiteFault) → parse_document text ≡ Some members → doc ≡ table members →
    IfErr result (λ e. e ≢ fault.OutOfMemory → IsTreeFault defs doc part e) → IfErr result (λ e. e ≢ fault.OutOfMemory → IsAtFault defs text part e)
text_refused defs text members doc part (Ok _) is same h = tt
text_refused defs text members doc part (Err e) is same h = λ real. inr (members, is, subst (λ d. IsTreeFault defs d part e) same (h real))
