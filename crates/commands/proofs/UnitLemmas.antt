-- What is asked of a unit and told of it, one model more at a time.
use Rattle.std.proofs.Common.{◌≡◌, ◌∙◌, ap, sym, subst, refl, inl, inr, ℕ, ◌+◌, ◌<◌, ◌≤◌, min, List, [], ◌∷◌, ◌++◌, append_assoc, length, slice_index_or, drop, Option, None, Some, Result, Ok, Err}
use Rattle.std.proofs.lemmas.List.{append-nil, drop_all, drop_more}
use Rattle.std.specs.Prelude.{IfOk, OnErr}
use Rattle.std.specs.List.{AllByRecursion}
use Rattle.gateway.proofs.Talking.{exchange_of, talks_behind, talks_first, talks_none}
use Rattle.gateway.specs.poller.Finding.{AreReadsBy, Searches, StopsSearch}
use Rattle.gateway.specs.poller.LinkRun.{Exchange}
use Rattle.gateway.specs.declared.poller.outcome.Outcome.{Outcome}
use Rattle.gateway.specs.poller.Polling.{Polling, Decides, Fails, Talks}
use Rattle.modbus_frame.specs.declared.link.LinkFault.{LinkFault}
use Rattle.modbus_frame.specs.declared.message.Request.{Request}
use Rattle.model_defs.specs.declared.model.ModelDef.{ModelDef}
use Rattle.register_map.specs.Layout.{Layout}
use Rattle.register_map.specs.Reads.{RegisterRead}
use Rattle.register_map.specs.declared.layout.Block.{Block}
use Rattle.register_map.specs.declared.layout.MapFault.{MapFault}
use Rattle.commands.specs.declared.unit_points.NoLines.{NoLines}
use Rattle.commands.specs.declared.unit_points.NoLines.TheVariants as no_lines
use Rattle.commands.specs.Probe.{definition_of, end_line, model_line, points_by, points_request, IsReadOf, LeavesOff, PointsRead, Probes, ReadsAlone, ReadsMap, ReadsModels, ReadsPoints, StopsBy, StopsReading, TellsMap}
use Rattle.commands.specs.Told.{Told}

-- ---- lines

-- one more model, and its points below it
pub models_more : (unit : ℕ) (models : List ModelDef) (blocks : List Block) (i : ℕ) (d : Block) (es own : List Exchange) (before with_model with_points points : List ℕ) → i < length blocks
    → ReadsPoints unit (slice_index_or blocks i d) (definition_of models (slice_index_or blocks i d).id) own points
    → with_model ≡ before ++ model_line (slice_index_or blocks i d) → with_points ≡ with_model ++ points
    → ((others : List Exchange) (more : List ℕ) → ReadsModels unit models (drop i blocks) others more → ReadsModels unit models blocks (es ++ others) (before ++ more))
    → (others : List Exchange) (more : List ℕ) → ReadsModels unit models (drop (i + 1) blocks) others more → ReadsModels unit models blocks ((es ++ own) ++ others) (with_points ++ more)
models_more unit models blocks i d es own before with_model with_points points within p m w done others more rest =
    let line = model_line (slice_index_or blocks i d) in
    let whole : ReadsModels unit models (drop i blocks) (own ++ others) ((line ++ points) ++ more) = rw (drop_more blocks i d within) (own, others, points, more, refl, refl, p, rest) in
    let e : with_points ++ more ≡ before ++ ((line ++ points) ++ more) =
    ap (λ l. l ++ more) (w ∙ ap (λ l. l ++ points) m ∙ append_assoc before line points) ∙ append_assoc before (line ++ points) more in
    rw (append_assoc es own others, e) (done (own ++ others) ((line ++ points) ++ more) whole)

-- after the last model, of a list of blocks that are the map's
pub map_read : (unit : ℕ) (models : List ModelDef) (map : Layout) (blocks : List Block) (i end : ℕ) (es : List Exchange) (before lines : List ℕ) (p q : Polling) → blocks ≡ map.blocks → end ≡ map.end → length blocks ≤ i
    → ((others : List Exchange) (more : List ℕ) → ReadsModels unit models (drop i blocks) others more → ReadsModels unit models blocks (es ++ others) (before ++ more))
    → Talks p es q → lines ≡ before ++ end_line end → ReadsMap unit models map p lines q
map_read unit models map blocks i end es before lines p q are ends past done talks w =
    let none : ReadsModels unit models (drop i blocks) [] [] = rw (drop_all i blocks past) (refl, refl) in
    let all : ReadsModels unit models blocks es before = rw (← append-nil es, ← append-nil before) (done [] [] none) in
    record { read = es; shown = before; points = subst (λ bs. ReadsModels unit models bs es before) are all; talks = talks; all = rw (← ends) w }

-- the answer to the request for a model's points
pub points_read : (unit : ℕ) (b : Block) (m : ModelDef) (p q : Polling) (o : Outcome) (request : Request) → request ≡ points_request b m → Decides p unit request o q → PointsRead unit b (Some m) p (points_by m o) q
points_read unit b m p q o request is one =
    let e = exchange_of p unit request o q one in
    (e ∷ [], (e, refl, refl, is, refl), talks_first p q q unit request o [] one (talks_none q one.fault))

-- without a definition nothing is asked
pub points_unread : (unit : ℕ) (b : Block) (p : Polling) → p.fault ≡ None → PointsRead unit b None p [] p
points_unread unit b p works = ([], (refl, refl), talks_none p works)

-- the link failed at that request, or memory was refused after it
pub points_stop : (unit : ℕ) (b : Block) (m : ModelDef) (p q : Polling) (fault : LinkFault) (request : Request) → request ≡ points_request b m → p.fault ≡ None → Fails p unit request fault q → StopsReading unit p fault q
points_stop unit b m p q fault request is works fails = record {
  middle = p;
  before = record { es = []; reads = tt; talks = talks_none p works };
  address = b.addr;
  count = min b.length m.length + 2;
  fails = subst (λ r. Fails p unit r fault q) is fails;
}

points_reads : (unit : ℕ) (b : Block) (m : Option ModelDef) (es : List Exchange) (lines : List ℕ) → ReadsPoints unit b m es lines → AllByRecursion (IsReadOf unit) es
points_reads unit b None es lines read = subst (AllByRecursion (IsReadOf unit)) (sym read.0) tt
points_reads unit b (Some m) es lines (e, is, own, request, shown) =
    subst (AllByRecursion (IsReadOf unit)) (sym is) ((b.addr, min b.length m.length + 2, own, request), tt)

pub points_alone : (unit : ℕ) (b : Block) (m : Option ModelDef) (p q : Polling) (lines : List ℕ) → PointsRead unit b m p lines q → ReadsAlone unit p q
points_alone unit b m p q lines (es, read, talks) = record { es = es; reads = points_reads unit b m es lines read; talks = talks }

pub none_alone : (unit : ℕ) (p : Polling) → p.fault ≡ None → ReadsAlone unit p p
none_alone unit p works = record { es = []; reads = tt; talks = talks_none p works }

-- ---- reads of the unit alone

all_behind : {A : Type 0} (P : A → Type 0) (xs ys : List A) → AllByRecursion P xs → AllByRecursion P ys → AllByRecursion P (xs ++ ys)
all_behind P [] ys first second = second
all_behind P (x ∷ xs) ys first second = (first.0, all_behind P xs ys first.1 second)

searched_reads : (unit : ℕ) (reads : List RegisterRead) (es : List Exchange) → AreReadsBy unit reads es → AllByRecursion (IsReadOf unit) es
searched_reads unit [] [] are = tt
searched_reads unit [] (e ∷ es) are = absurd are
searched_reads unit (r ∷ rs) [] are = absurd are
searched_reads unit (r ∷ rs) (e ∷ es) are = ((r.address, r.count, are.0.0, are.0.1), searched_reads unit rs es are.1)

-- the reads of a model's points after others
pub alone_more : (unit : ℕ) (b : Block) (m : Option ModelDef) (es own : List Exchange) (lines : List ℕ) → AllByRecursion (IsReadOf unit) es → ReadsPoints unit b m own lines → AllByRecursion (IsReadOf unit) (es ++ own)
alone_more unit b m es own lines reads read = all_behind (IsReadOf unit) es own reads (points_reads unit b m own lines read)

pub alone_behind : (unit : ℕ) (p m q : Polling) → ReadsAlone unit p m → ReadsAlone unit m q → ReadsAlone unit p q
alone_behind unit p m q first second = record {
  es = first.es ++ second.es;
  reads = all_behind (IsReadOf unit) first.es second.es first.reads second.reads;
  talks = talks_behind p m q first.es second.es first.talks second.talks;
}

pub stops_behind : (unit : ℕ) (p m q : Polling) (fault : LinkFault) → ReadsAlone unit p m → StopsReading unit m fault q → StopsReading unit p fault q
stops_behind unit p m q fault first second = record {
  middle = second.middle;
  before = alone_behind unit p m second.middle first second.before;
  address = second.address;
  count = second.count;
  fails = second.fails;
}

pub ends_behind : (unit : ℕ) (p m q : Polling) (cause : NoLines) → ReadsAlone unit p m → StopsBy cause unit m q → StopsBy cause unit p q
ends_behind unit p m q (no_lines.Link fault) first second = stops_behind unit p m q fault first second
ends_behind unit p m q no_lines.OutOfMemory first second = alone_behind unit p m q first second

-- ---- after the search

pub searched_alone : (unit : ℕ) (p q : Polling) (result : Result Layout MapFault) → Searches unit None p result q → ReadsAlone unit p q
searched_alone unit p q result (es, found, talks) = record { es = es; reads = searched_reads unit found.reads es found.asked; talks = talks }

pub search_stops : (unit : ℕ) (p q : Polling) (fault : LinkFault) → StopsSearch unit None p fault q → StopsReading unit p fault q
search_stops unit p q fault stops = record {
  middle = stops.middle;
  before = record { es = stops.es; reads = searched_reads unit (stops.next).reads stops.es (stops.next).asked; talks = stops.talks };
  address = stops.address;
  count = stops.count;
  fails = stops.fails;
}

pub leaves_behind : (unit : ℕ) (p m q : Polling) → ReadsAlone unit p m → LeavesOff unit m q → LeavesOff unit p q
leaves_behind unit p m q first (inl alone) = inl (alone_behind unit p m q first alone)
leaves_behind unit p m q first (inr (fault, stops)) = inr (fault, stops_behind unit p m q fault first stops)

pub told_behind : (unit : ℕ) (models : List ModelDef) (map : Layout) (p m q : Polling) (told : Told) → Searches unit None p (Ok map) m → TellsMap unit models map m told q → Probes unit models p told q
told_behind unit models map p m q told (es, found, talks) (inl (lines, read, is)) = inl (
  lines,
  record {
    searched = es;
    map = map;
    found = found;
    read = read.read;
    shown = read.shown;
    points = read.points;
    talks = talks_behind p m q es read.read talks read.talks;
    all = read.all;
  },
  is,
)
told_behind unit models map p m q told search (inr (fault, stops, is)) = inr (inr (inl (fault, stops_behind unit p m q fault (searched_alone unit p m (Ok map) search) stops, is)))

-- ---- results

pub if_ok : {T E : Type 0} {P Q : T → Type 0} (r : Result T E) → ((x : T) → P x → Q x) → IfOk r P → IfOk r Q
if_ok (Ok x) gives holds = gives x holds
if_ok (Err e) gives holds = holds

pub on_err : {T E : Type 0} {P Q : Type 0} (r : Result T E) → (P → Q) → OnErr r P → OnErr r Q
on_err (Ok x) gives holds = holds
on_err (Err e) gives holds = gives holds

pub on_err_now : {T E : Type 0} {P : Type 0} (r : Result T E) → P → OnErr r P
on_err_now (Ok x) holds = tt
on_err_now (Err e) holds = holds
