-- What `probe` asks of a unit, and what it prints of the answers.
-- SunSpec Device Information Model Specification, models in Modbus registers and the table of types.
use Rattle.std.specs.Prelude.{◌≡◌, ◌⊎◌, ℕ, ◌+◌, ◌==◌, min, nat_le, ◌&&◌, Bool, List, [], ◌∷◌, ◌++◌, reverse, find, ℤ, Option, None, Some, option_and_then, if◌then◌else◌, Ok, Err, codes}
use Rattle.std.specs.Fmt.{decimal, signed_decimal}
use Rattle.std.specs.List.{AllByRecursion}
use Rattle.gateway.specs.declared.poller.outcome.Outcome.{Outcome}
use Rattle.gateway.specs.declared.poller.outcome.Outcome.TheVariants as outcome
use Rattle.gateway.specs.poller.Finding.{IsSearched}
use Rattle.gateway.specs.poller.LinkRun.{Exchange}
use Rattle.gateway.specs.poller.Polling.{Polling, Talks, Fails}
use Rattle.modbus_frame.specs.Fault.{link_fault_word}
use Rattle.modbus_frame.specs.declared.link.LinkFault.{LinkFault}
use Rattle.modbus_frame.specs.declared.message.Request.{Request}
use Rattle.modbus_frame.specs.declared.message.Request.TheVariants.{Read}
use Rattle.model_defs.specs.declared.model.ModelDef.{ModelDef}
use Rattle.model_defs.specs.declared.point.Point.{Point}
use Rattle.point_types.specs.Point.{size_of, value_of}
use Rattle.register_map.specs.Faults.{map_fault_word}
use Rattle.register_map.specs.Layout.{Layout}
use Rattle.register_map.specs.declared.layout.Block.{Block}
use Rattle.register_map.specs.declared.layout.MapFault.{MapFault}
use Rattle.site_model.specs.Readings.{registers_at}
use Rattle.site_model.specs.Tagging.{is_numeric}
use Rattle.note_text.specs.Escaping.{escaped}
use Rattle.commands.specs.declared.unit_points.NoLines.{NoLines}
use Rattle.commands.specs.declared.unit_points.NoLines.TheVariants as no_lines
use Rattle.commands.specs.Report.{bad_map_line, line_of, link_line, no_memory_line}
use Rattle.commands.specs.Told.{IsTold, Told, refused_with}

-- ---- lines

-- model ID ADDR LENGTH
abbrev pub model_line : Block → List ℕ
model_line b = line_of (codes "model " ++ decimal b.id ++ codes " " ++ decimal b.addr ++ codes " " ++ decimal b.length)

-- NAME NUMBER, with the control characters of the name escaped: a definition that is handed in may have any text there
abbrev pub point_line : List ℕ → ℤ → List ℕ
point_line name n = line_of (escaped name ++ codes " " ++ signed_decimal n)

-- end ADDR
abbrev pub end_line : ℕ → List ℕ
end_line addr = line_of (codes "end " ++ decimal addr)

-- ID, L, pads and texts aren't shown
abbrev pub is_shown : Point → Bool
is_shown p = nat_le 2 p.offset && is_numeric p.kind

-- the raw number of a point that is shown, in a model's words from ID on; none where it is absent or lies past them
abbrev pub shown_number : Point → List ℕ → Option ℤ
shown_number p words = if is_shown p then option_and_then (value_of p.kind) (registers_at words p.offset (size_of p.kind)) else None

abbrev pub shown_line : List ℕ → Option ℤ → List ℕ
shown_line name None = []
shown_line name (Some n) = point_line name n

-- the points of a model, in the order of its definition
abbrev pub point_lines : List Point → List ℕ → List ℕ
point_lines [] words = []
point_lines (p ∷ ps) words = shown_line p.name (shown_number p words) ++ point_lines ps words

-- ---- a unit's models

-- of several definitions of an ID the last one counts
abbrev pub definition_of : List ModelDef → ℕ → Option ModelDef
definition_of models id = find (λ m. m.id == id) (reverse models)

-- the registers that both the unit and the definition have, with ID and L
abbrev pub points_request : Block → ModelDef → Request
points_request b m = Read b.addr (min b.length m.length + 2)

-- the points in the words that came; another answer shows none
abbrev pub points_by : ModelDef → Outcome → List ℕ
points_by m (outcome.Words words) = point_lines m.points words
points_by m (outcome.Exception e) = []
points_by m outcome.Wrote = []
points_by m outcome.Mismatch = []
points_by m outcome.Stale = []

-- A model's registers are asked for once, by its definition; without one nothing is asked or shown.
abbrev pub ReadsPoints : ℕ → Block → Option ModelDef → List Exchange → List ℕ → Type 0
ReadsPoints unit b None es lines = (es ≡ []) × (lines ≡ [])
ReadsPoints unit b (Some m) es lines = (e : Exchange) × (es ≡ e ∷ []) × (e.unit ≡ unit) × (e.request ≡ points_request b m) × (lines ≡ points_by m e.outcome)

-- one model after another: its line, and its points
abbrev pub ReadsModels : ℕ → List ModelDef → List Block → List Exchange → List ℕ → Type 0
ReadsModels unit models [] es lines = (es ≡ []) × (lines ≡ [])
ReadsModels unit models (b ∷ bs) es lines =
    (own others : List Exchange) × (points more : List ℕ) × (es ≡ own ++ others) × (lines ≡ (model_line b ++ points) ++ more) × ReadsPoints unit b (definition_of models b.id) own points × ReadsModels unit models bs others more

-- ---- what goes over the link

-- a read of this unit
abbrev pub IsReadOf : ℕ → Exchange → Type 0
IsReadOf unit e = (address count : ℕ) × (e.unit ≡ unit) × (e.request ≡ Read address count)

-- Reads of this unit were asked, and nothing else.
pub record ReadsAlone (unit : ℕ) (p q : Polling) : Type 0 where
  pub es : List Exchange
  pub reads : AllByRecursion (IsReadOf unit) es
  pub talks : Talks p es q

-- The link failed at one more.
pub record StopsReading (unit : ℕ) (p : Polling) (fault : LinkFault) (q : Polling) : Type 0 where
  pub middle : Polling
  pub before : ReadsAlone unit p middle
  pub address : ℕ
  pub count : ℕ
  pub fails : Fails middle unit (Read address count) fault q

-- Nothing but reads of this unit was asked, until memory was refused.
abbrev pub LeavesOff : ℕ → Polling → Polling → Type 0
LeavesOff unit p q = ReadsAlone unit p q ⊎ ((fault : LinkFault) × StopsReading unit p fault q)

-- The unit's map was found, and its models read.
pub record ReadsUnit (unit : ℕ) (models : List ModelDef) (p : Polling) (lines : List ℕ) (q : Polling) : Type 0 where
  pub searched : List Exchange
  pub map : Layout
  pub found : IsSearched unit None searched (Ok map)
  pub read : List Exchange
  pub shown : List ℕ
  pub points : ReadsModels unit models map.blocks read shown
  pub talks : Talks p (searched ++ read) q
  pub all : lines ≡ shown ++ end_line map.end

-- The search found why the unit has no map.
pub record LacksMap (unit : ℕ) (p : Polling) (fault : MapFault) (q : Polling) : Type 0 where
  pub searched : List Exchange
  pub found : IsSearched unit None searched (Err fault)
  pub talks : Talks p searched q

-- what is told of a link that failed
abbrev pub unlinked : LinkFault → Told
unlinked fault = record { lines = link_line (link_fault_word fault); status = 3 }

-- What is told of a unit, and what went over the link for it.
abbrev pub Probes : ℕ → List ModelDef → Polling → Told → Polling → Type 0
Probes unit models p told q =
    ((lines : List ℕ) × ReadsUnit unit models p lines q × (told ≡ record { lines = lines; status = 0 }))
    ⊎ ((fault : MapFault) × LacksMap unit p fault q × (told ≡ refused_with (bad_map_line (map_fault_word fault))))
    ⊎ ((fault : LinkFault) × StopsReading unit p fault q × (told ≡ unlinked fault))
    ⊎ (LeavesOff unit p q × (told ≡ refused_with no_memory_line))

-- what `probe` writes and its status, by the bytes of the writer before and after
abbrev pub IsProbe : ℕ → List ModelDef → Polling → Option (List ℕ) → Polling → Option (List ℕ) → ℕ → Type 0
IsProbe unit models p old q new status = (told : Told) × Probes unit models p told q × IsTold old new told status

-- ---- inner

-- Why the models of a map aren't all read, and what went over the link.
abbrev pub StopsBy : NoLines → ℕ → Polling → Polling → Type 0
StopsBy (no_lines.Link fault) unit p q = StopsReading unit p fault q
StopsBy no_lines.OutOfMemory unit p q = ReadsAlone unit p q

-- The points of one model.
abbrev pub PointsRead : ℕ → Block → Option ModelDef → Polling → List ℕ → Polling → Type 0
PointsRead unit b m p lines q = (es : List Exchange) × ReadsPoints unit b m es lines × Talks p es q

-- The models of a map.
pub record ReadsMap (unit : ℕ) (models : List ModelDef) (map : Layout) (p : Polling) (lines : List ℕ) (q : Polling) : Type 0 where
  pub read : List Exchange
  pub shown : List ℕ
  pub points : ReadsModels unit models map.blocks read shown
  pub talks : Talks p read q
  pub all : lines ≡ shown ++ end_line map.end

abbrev pub TellsMap : ℕ → List ModelDef → Layout → Polling → Told → Polling → Type 0
TellsMap unit models map p told q =
    ((lines : List ℕ) × ReadsMap unit models map p lines q × (told ≡ record { lines = lines; status = 0 }))
    ⊎ ((fault : LinkFault) × StopsReading unit p fault q × (told ≡ unlinked fault))
