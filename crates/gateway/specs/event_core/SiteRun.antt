-- The site run: what a gateway knows, event by event, and what it answers.
-- Modbus Application Protocol V1.1b3, sections 6.3, 6.6, 6.12 and 7; IEC 61131-3 edition 2, 3.2 (one scan after another).
use Rattle.std.specs.Prelude.{◌≡◌, ℕ, zero, suc, ◌+◌, ◌-◌, ◌*◌, ◌≤◌, nat_eq, nat_le, Bool, true, false, ◌&&◌, List, [], ◌∷◌, length, map, take, drop, is_some, slice_get, slice_set, ℤ, Option, Some, None, option_map, option_and_then, if◌then◌else◌, Result, Ok, Err}
use Rattle.std.specs.List.{position}
use Rattle.std.specs.Option.{option_map_or}
use Rattle.point_types.specs.declared.kind.Kind.{Kind}
use Rattle.point_types.specs.declared.reading.Cause.TheVariants as cause
use Rattle.point_types.specs.declared.reading.Reading.{Reading}
use Rattle.point_types.specs.declared.reading.Reading.TheVariants as reading
use Rattle.point_types.specs.Point.{value_of}
use Rattle.point_types.specs.Reading.{IsReading}
use Rattle.modbus_frame.specs.declared.message.Request.{Request}
use Rattle.modbus_frame.specs.declared.message.Request.TheVariants as request
use Rattle.modbus_frame.specs.declared.message.Response.{Response}
use Rattle.modbus_frame.specs.declared.message.Response.TheVariants as response
use Rattle.modbus_frame.specs.declared.message.Exception.{Exception}
use Rattle.modbus_frame.specs.Message.{illegal_address, illegal_value, request_of, answer_bytes, refusal_bytes}
use Rattle.scan_code.specs.Image.{Image}
use Rattle.scan_code.specs.Machine.{State, Ended, run, opening}
use Rattle.site_model.specs.declared.site.Site.{Site}
use Rattle.site_model.specs.declared.tag.SiteTag.{SiteTag}
use Rattle.site_model.specs.Readings.{AreReadings}
use Rattle.site_model.specs.Tagging.{is_setting}
use Rattle.site_model.specs.declared.want.Want.{Want}
use Rattle.site_model.specs.Wants.{same_want}
use Rattle.gateway.specs.declared.event_core.event.Event.{Event}
use Rattle.gateway.specs.declared.event_core.event.Event.TheVariants as event
use Rattle.gateway.specs.declared.event_core.event.Answer.{Answer}
use Rattle.gateway.specs.declared.event_core.event.Answer.TheVariants as answer
use Rattle.gateway.specs.declared.served.point.OwnPoint.{OwnPoint}
use Rattle.gateway.specs.declared.served.point.OwnPoint.TheVariants as own
use Rattle.gateway.specs.declared.served.point.PointSource.{PointSource}
use Rattle.gateway.specs.declared.served.point.PointSource.TheVariants as source
use Rattle.gateway.specs.served.Points.{own_points, registers_of}
use Rattle.gateway.specs.served.ServedImage.{IsServedImage}

-- a scan that is over: after how many instructions it ended, what the program stored and what it read, for each tag of the site, by which known blocks
pub record Scanned : Type 0 where
  pub steps : ℕ
  pub outputs : List (Option ℤ)
  pub readings : List Reading
  pub blocks : List (Option (List ℕ))

-- what is known of the wanted blocks, what clients set and how many milliseconds ago, the milliseconds since the last scan, where there was one, the program's variables, and the last scan
pub record Standing : Type 0 where
  pub blocks : List (Option (List ℕ))
  pub sets : List (Option ℤ)
  pub ages : List (Option ℕ)
  pub elapsed : Option ℕ
  pub variables : List ℤ
  pub last : Scanned

-- ---- at the start nothing is known or set

abbrev pub none_of : {X Y : Type 0} → List X → List (Option Y)
none_of xs = map (λ x. None) xs

abbrev pub unread : SiteTag → Reading
unread t = reading.Absent cause.NoBlock

-- before the first scan nothing is stored or read
abbrev pub unscanned : Site → Scanned
unscanned site = record {
  steps = 0;
  outputs = none_of site.tags;
  readings = map unread site.tags;
  blocks = none_of site.wants;
}

abbrev pub opened : Site → List ℤ → Standing
opened site variables = record { blocks = none_of site.wants; sets = none_of site.tags; ages = none_of site.tags; elapsed = None; variables = variables; last = unscanned site }

-- ---- blocks

-- the words that a device answered, which begin with the model's ID
abbrev pub told : ℕ → List ℕ → Option (List ℕ)
told model [] = None
told model (w ∷ words) = if nat_eq w model then Some (w ∷ words) else None

-- a block that isn't wanted is ignored
abbrev pub with_block : List Want → Want → Option (List ℕ) → List (Option (List ℕ)) → List (Option (List ℕ))
with_block wants want entry blocks = option_map_or (λ i. slice_set blocks i entry) (position (same_want want) wants) blocks

abbrev pub after_block : Site → Want → Option (List ℕ) → Standing → Standing
after_block site want entry s = record s { blocks = with_block site.wants want entry s.blocks }

-- ---- time

-- an hour; longer times aren't told apart
abbrev pub most_elapsed : ℕ
most_elapsed = 3600000

-- so many milliseconds later
abbrev pub later : ℕ → ℕ → ℕ
later n ms = if nat_le most_elapsed (n + ms) then most_elapsed else n + ms

-- a day; longer ages aren't told apart
abbrev pub most_age : ℕ
most_age = 86400000

abbrev pub older : ℕ → ℕ → ℕ
older ms age = if nat_le most_age (age + ms) then most_age else age + ms

abbrev pub all_older : ℕ → List (Option ℕ) → List (Option ℕ)
all_older ms ages = map (λ age. option_map (older ms) age) ages

-- what was set so many milliseconds ago lapses after so many seconds
abbrev pub has_lapsed : (lapse age : Option ℕ) → Bool
has_lapsed None age = false
has_lapsed (Some seconds) None = false
has_lapsed (Some seconds) (Some age) = nat_le (seconds * 1000) age

-- what holds of what was set so long ago: nothing, as where it was never set, once it has lapsed
abbrev pub held : SiteTag → Option ℕ → Option ℤ → Option ℤ
held t age set = if has_lapsed t.lapse age then None else set

-- the same for each tag
abbrev pub all_held : List SiteTag → (ages : List (Option ℕ)) → (sets : List (Option ℤ)) → List (Option ℤ)
all_held [] ages sets = []
all_held (t ∷ ts) [] sets = []
all_held (t ∷ ts) (age ∷ ages) [] = []
all_held (t ∷ ts) (age ∷ ages) (set ∷ sets) = held t age set ∷ all_held ts ages sets

-- so many milliseconds went by
abbrev pub after_time : Site → ℕ → Standing → Standing
after_time site ms s = record s {
  sets = all_held site.tags (all_older ms s.ages) s.sets;
  ages = all_older ms s.ages;
  elapsed = option_map (λ n. later n ms) s.elapsed;
}

-- ---- what clients write

abbrev pub if_setting : ℕ → SiteTag → Option ℕ
if_setting n t = if is_setting t.access then Some n else None

abbrev pub setting_from : List SiteTag → PointSource → Option ℕ
setting_from tags (source.Tag n) = option_and_then (if_setting n) (slice_get tags n)
setting_from tags other = None

-- the number of the `set` tag that a point is
abbrev pub setting_of : List SiteTag → OwnPoint → Option ℕ
setting_of tags (own.Number kind factor from) = setting_from tags from
setting_of tags other = None

-- the points after so many registers, where one begins there
abbrev pub points_behind : List OwnPoint → ℕ → Option (List OwnPoint)
points_behind points zero = Some points
points_behind [] (suc n) = None
points_behind (p ∷ ps) (suc n) = if nat_le (registers_of p) (suc n) then points_behind ps (suc n - registers_of p) else None

-- so many registers are those of whole `set` points side by side
abbrev pub are_settings : List SiteTag → List OwnPoint → ℕ → Bool
are_settings tags points zero = true
are_settings tags [] (suc n) = false
are_settings tags (p ∷ ps) (suc n) = is_some (setting_of tags p) && (nat_le (registers_of p) (suc n) && are_settings tags ps (suc n - registers_of p))

-- the points that so many registers from an address on are, where a client may write these
abbrev pub written_points : Site → (addr n : ℕ) → Option (List OwnPoint)
written_points site addr n =
    if nat_le site.base addr then option_and_then (λ points. if are_settings site.tags points n then Some points else None) (points_behind (own_points site) (addr - site.base)) else None

-- the words of a kind are this number of a tag, exactly and in its range, by the served factor
abbrev pub IsNumberIn : Kind → Option ℤ → SiteTag → List ℕ → ℤ → Type 0
IsNumberIn kind factor t words n = (raw : ℤ) × (value_of kind words ≡ Some raw) × IsReading raw factor t.exponent t.low t.high (reading.Value n)

abbrev pub ReadsBack : OwnPoint → SiteTag → List ℕ → ℤ → Type 0
ReadsBack (own.Number kind factor from) t words n = IsNumberIn kind factor t words n
ReadsBack other t words n = ⊥

-- the words of a point set its tag
abbrev pub SetsOne : List SiteTag → OwnPoint → List ℕ → (old new : List (Option ℤ)) → Type 0
SetsOne tags p words old new = (i : ℕ) × (t : SiteTag) × (n : ℤ) × (setting_of tags p ≡ Some i) × (slice_get tags i ≡ Some t) × ReadsBack p t words n × (new ≡ slice_set old i (Some n))

-- the words of some points side by side set their tags
abbrev pub Sets : List SiteTag → List OwnPoint → List ℕ → (old new : List (Option ℤ)) → Type 0
Sets tags points [] old new = new ≡ old
Sets tags [] (w ∷ words) old new = ⊥
Sets tags (p ∷ ps) (w ∷ words) old new =
    (next : List (Option ℤ)) × SetsOne tags p (take (registers_of p) (w ∷ words)) old next × Sets tags ps (drop (registers_of p) (w ∷ words)) next new

-- all is set at once, or nothing
abbrev pub Writes : List SiteTag → Option (List OwnPoint) → List ℕ → (old : List (Option ℤ)) → Result Response Exception → (new : List (Option ℤ)) → Type 0
Writes tags None words old r new = (r ≡ Err illegal_address) × (new ≡ old)
Writes tags (Some points) words old (Ok (response.Words read)) new = ⊥
Writes tags (Some points) words old (Ok response.Wrote) new = Sets tags points words old new
Writes tags (Some points) words old (Err e) new = (e ≡ illegal_value) × ((sets : List (Option ℤ)) → Sets tags points words old sets → ⊥) × (new ≡ old)

-- it says that it is done, or why it isn't
abbrev pub SaysWrote : Result Response Exception → Type 0
SaysWrote (Ok (response.Words read)) = ⊥
SaysWrote (Ok response.Wrote) = Unit {0}
SaysWrote (Err e) = Unit {0}

-- a tag was set right now
abbrev pub renewed_one : Option ℕ → List (Option ℕ) → List (Option ℕ)
renewed_one None ages = ages
renewed_one (Some i) ages = slice_set ages i (Some 0)

-- the tags of the points of so many registers were
abbrev pub renewed : List SiteTag → List OwnPoint → ℕ → List (Option ℕ) → List (Option ℕ)
renewed tags points zero ages = ages
renewed tags [] (suc n) ages = ages
renewed tags (p ∷ ps) (suc n) ages = renewed tags ps (suc n - registers_of p) (renewed_one (setting_of tags p) ages)

-- a write renews what it sets, be it to the same number, and one that is refused renews nothing
abbrev pub ages_after : Site → (addr n : ℕ) → Result Response Exception → List (Option ℕ) → List (Option ℕ)
ages_after site addr n (Ok r) ages = option_map_or (λ points. renewed site.tags points n ages) (written_points site addr n) ages
ages_after site addr n (Err e) ages = ages

-- ---- what clients ask for

-- registers of an image that begins at an address
abbrev pub slice_of : (base : ℕ) → List ℕ → (addr qty : ℕ) → Result Response Exception
slice_of base image addr qty =
    if nat_le base addr && nat_le (addr + qty) (base + length image) then Ok (response.Words (take qty (drop (addr - base) image))) else Err illegal_address

abbrev pub WritesAt : Site → Standing → ℕ → List ℕ → Result Response Exception → Standing → Type 0
WritesAt site s addr words r t = Writes site.tags (written_points site addr (length words)) words s.sets r t.sets × (t ≡ record s { sets = t.sets; ages = ages_after site addr (length words) r s.ages })

abbrev pub Does : Site → Standing → Request → Result Response Exception → Standing → Type 0
Does site s (request.Read addr qty) r t = ((image : List ℕ) × IsServedImage site s.last.outputs s.last.readings s.sets image × (r ≡ slice_of site.base image addr qty)) × (t ≡ s)
Does site s (request.WriteOne addr value) r t = WritesAt site s addr (value ∷ []) r t
Does site s (request.WriteMany addr words) r t = WritesAt site s addr words r t

-- a PDU that is no request is answered with its exception
abbrev pub Replies : Site → Standing → List ℕ → Result Request Exception → List ℕ → Standing → Type 0
Replies site s pdu (Err e) reply t = (reply ≡ refusal_bytes pdu e) × (t ≡ s)
Replies site s pdu (Ok asked) reply t = (r : Result Response Exception) × Does site s asked r t × (reply ≡ answer_bytes asked r)

-- ---- scans

-- an entry of a list, none past its end
abbrev pub reading_at : List Reading → ℕ → Reading
reading_at readings n = option_map_or (λ r. r) (slice_get readings n) (reading.Absent cause.NoBlock)

-- outputs at the numbers of their tags
abbrev pub stored_at : List ℕ → List (Option ℤ) → List (Option ℤ) → List (Option ℤ)
stored_at [] outputs stored = stored
stored_at (n ∷ links) [] stored = stored
stored_at (n ∷ links) (o ∷ outputs) stored = stored_at links outputs (slice_set stored n o)

-- what one scan of a program leaves, where its i-th tag is the site's tag number links[i]
abbrev pub scanned : Site → (links : List ℕ) → Standing → List Reading → (steps : ℕ) → State → Standing
scanned site links s readings steps end = record s {
  elapsed = Some 0;
  variables = end.variables;
  last = record { steps = steps; outputs = stored_at links end.outputs (none_of site.tags); readings = readings; blocks = s.blocks };
}

-- The machine ends without a trap after at most so many steps, on the readings of the known blocks, the set values and the time since the last scan.
pub record IsScan (site : Site) (image : Image) (links : List ℕ) (budget : ℕ) (s t : Standing) : Type 0 where
  pub readings : List Reading
  pub each : length readings ≡ length site.tags
  pub read : AreReadings site.tags site.wants s.blocks s.sets s.elapsed readings
  pub steps : ℕ
  pub end : State
  pub ended : run image (map (reading_at readings) links) 0 budget (opening image s.variables) ≡ Ended steps end
  pub bounded : steps ≤ budget
  pub after : t ≡ scanned site links s readings steps end

-- ---- events

abbrev pub Steps : Site → Image → (links : List ℕ) → (budget : ℕ) → Standing → Event → Answer → Standing → Type 0
Steps site image links budget s (event.Block want words) a t = (a ≡ answer.None) × (t ≡ after_block site want (told want.model words) s)
Steps site image links budget s (event.Lost want) a t = (a ≡ answer.None) × (t ≡ after_block site want None s)
Steps site image links budget s (event.Time ms) a t = (a ≡ answer.None) × (t ≡ after_time site ms s)
Steps site image links budget s event.Scan a t = (a ≡ answer.Writes (length site.outs)) × IsScan site image links budget s t
Steps site image links budget s (event.Client pdu) a t = (reply : List ℕ) × (a ≡ answer.Reply reply) × Replies site s pdu (request_of pdu) reply t

-- a list of events, and their answers in order
abbrev pub Runs : Site → Image → (links : List ℕ) → (budget : ℕ) → Standing → List Event → List Answer → Standing → Type 0
Runs site image links budget s [] answers t = (answers ≡ []) × (t ≡ s)
Runs site image links budget s (e ∷ es) answers t =
    (a : Answer) × (rest : List Answer) × (next : Standing) × Steps site image links budget s e a next × (answers ≡ a ∷ rest) × Runs site image links budget next es rest t
