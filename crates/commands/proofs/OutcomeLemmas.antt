-- The run of an assembled program, told by its meaning.
use Rattle.std.proofs.Common.{◌≡◌, ◌≢◌, ◌⊎◌, inl, inr, ℕ, ℤ, List, [], ◌++◌, ap, sym, subst, ◌∙◌, append_assoc, map, refl, Option, Result, Ok, Err, IfOk, IfErr, OnOk}
use Rattle.point_types.specs.declared.reading.Reading.{Reading}
use Rattle.point_types.specs.Value.{Fault}
use Rattle.scan_code.specs.Image.{Image}
use Rattle.scan_code.specs.declared.image.Tag.{Tag}
use Rattle.point_types.specs.declared.variable.Var.{Var}
use Rattle.scan_code.specs.Machine.{State, Ending, Ended, Trapped, At_fault, opening, run}
use Rattle.scan_code.specs.Table.{start_of}
use Rattle.scan_vm.specs.declared.trial.Scan.{Scan}
use Rattle.scan_vm.specs.declared.trap.Trap.{Trap}
use Rattle.scan_vm.specs.declared.trap.TrapKind.{TrapKind}
use Rattle.scan_vm.specs.declared.trap.TrapKind.TheVariants as kind
use Rattle.scan_vm.specs.Outcome.{kind_of}
use Rattle.scan_vm.specs.Trap.{trap_of, word_of}
use Rattle.scan_vm.specs.Trial.{Ends, Standing, Traps, started, unset}
use Rattle.il_assemble.specs.Meaning.{Program, Outcome, Done, Fails, meaning}
use Rattle.il_assemble.specs.Correct.{AreVariables, EndsAs, IsOver}
use Rattle.il_assemble.specs.declared.fault.AsmFault.{AsmFault}
use Rattle.il_assemble.specs.declared.fault.AsmFaultKind.TheVariants as asm_fault
use Rattle.il_assemble.specs.Elaboration.{elaborated}
use Rattle.il_assemble.specs.Texts.{elaborated_text}
use Rattle.il_assemble.specs.Word as assembling
use Rattle.il_reader.specs.declared.fault.ReadFault.{ReadFault}
use Rattle.il_reader.specs.declared.fault.ReadFaultKind.TheVariants as read_fault
use Rattle.il_reader.specs.declared.tree.Program.{Program as Tree}
use Rattle.il_reader.specs.Fault as reading
use Rattle.il_assemble.specs.Assembled.{IsAssembled}
use Rattle.il_assemble.proofs.Elaborating.{starts_are_in_range}
use Rattle.commands.specs.Outcome.{TellsGiven, TellsGivenImage, TellsImage, TellsKnown, TellsReading, TellsResolved, TellsScan, TellsTree, ending_line, ending_status, standing_lines, starts}
use Rattle.commands.specs.Given.{readings_given}
use Rattle.commands.proofs.GivenLemmas.{readings_are}
use Rattle.commands.specs.Told.{Told, refused_with}
use Rattle.commands.specs.Report.{bad_input_line, output_lines, steps_line, trap_line, unassembled_line, unread_line, variable_lines}

-- a run that ended
pub tells_end : (p : Program) (readings : List Reading) (image : Image) (m : Outcome) (n steps : ℕ) (s : State) (told : Told) → run image readings 0 n (opening image (starts p)) ≡ Ended steps s → EndsAs (Ended steps s) m
    → told ≡ record { lines = variable_lines p.variables s.variables ++ output_lines p.tags s.outputs ++ steps_line steps; status = 0 } → TellsScan p readings image m told
tells_end p readings image (Done variables outputs) n steps s told e (steps', s', same, v, o) l =
    let there : s ≡ s' = cc in
    let vs : s.variables ≡ variables = ap (λ t. t.variables) there ∙ v in
    let os : s.outputs ≡ outputs = ap (λ t. t.outputs) there ∙ o in
    let lines : List ℤ → List (Option ℤ) → Told = λ xs ys. record { lines = variable_lines p.variables xs ++ output_lines p.tags ys ++ steps_line steps; status = 0 } in
    (n, steps, s, e, l ∙ ap (λ xs. lines xs s.outputs) vs ∙ ap (λ ys. lines variables ys) os)
tells_end p readings image (Fails fault) n steps s told e (at, same) l = cc

fault_same : (f g : Fault) → At_fault f ≡ At_fault g → f ≡ g
fault_same f g e = cc

-- a fault's trap has the fault's word
word_same : (k : TrapKind) (fault : Fault) → trap_of k ≡ At_fault fault → word_of k ≡ word_of (kind_of fault)
word_same kind.WrongType fault e = ap (λ f. word_of (kind_of f)) (fault_same _ _ e)
word_same kind.Overflow fault e = ap (λ f. word_of (kind_of f)) (fault_same _ _ e)
word_same kind.ZeroDivisor fault e = ap (λ f. word_of (kind_of f)) (fault_same _ _ e)
word_same kind.MissingPoint fault e = ap (λ f. word_of (kind_of f)) (fault_same _ _ e)
word_same kind.Code fault e = cc
word_same kind.Stack fault e = cc
word_same kind.StoreRange fault e = ap (λ f. word_of (kind_of f)) (fault_same _ _ e)

-- a run that trapped
pub tells_trap : (p : Program) (readings : List Reading) (image : Image) (m : Outcome) (n at : ℕ) (k : TrapKind) (told : Told) → run image readings 0 n (opening image (starts p)) ≡ Trapped at (trap_of k) → EndsAs (Trapped at (trap_of k)) m
    → told ≡ refused_with (variable_lines p.variables (starts p) ++ output_lines p.tags (unset image) ++ trap_line (word_of k) at) → TellsScan p readings image m told
tells_trap p readings image (Done variables outputs) n at k told e (steps', s', same, v, o) l = cc
tells_trap p readings image (Fails fault) n at k told e (at', same) l =
    let here : trap_of k ≡ At_fault fault = cc in
    (n, at, e ∙ ap (λ t. Trapped at t) here, l ∙ ap (λ w. refused_with (variable_lines p.variables (starts p) ++ output_lines p.tags (unset image) ++ trap_line w at)) (word_same k fault here))

starts_in_range : (p : Program) (image : Image) → image.vars ≡ p.variables → AreVariables image.vars (starts p)
starts_in_range p image vars = subst (λ vs. AreVariables vs (starts p)) (sym vars) (starts_are_in_range p.variables)

run_starts : (p : Program) (readings : List Reading) (image : Image) (n : ℕ) (e : Ending) → image.vars ≡ p.variables → run image readings 0 n (opening image (map start_of image.vars)) ≡ e → run image readings 0 n (opening image (starts p)) ≡ e
run_starts p readings image n e vars r = ap (λ vs. run image readings 0 n (opening image (map start_of vs))) (sym vars) ∙ r

-- an image whose run ended
pub image_ended : (readings : List Reading) (image : Image) (n steps : ℕ) (s : State) (new : Standing) (told : Told) → run image readings 0 n (opening image (map start_of image.vars)) ≡ Ended steps s
    → new ≡ record (started image) { variables = s.variables; outputs = s.outputs }
    → told ≡ record { lines = variable_lines new.image.vars new.variables ++ output_lines new.image.tags new.outputs ++ steps_line steps; status = 0 } → TellsImage image readings told
image_ended readings image n steps s new told r e l p right known = tells_end p readings image (meaning p readings (starts p)) n steps s told here ends (l ∙ ap lines e ∙ ap (λ vs. tell vs image.tags) right.variables ∙ ap (tell p.variables) right.tags)
  where
    here : run image readings 0 n (opening image (starts p)) ≡ Ended steps s
    here = run_starts p readings image n _ right.variables r

    ends : EndsAs (Ended steps s) (meaning p readings (starts p))
    ends = subst (λ z. EndsAs z (meaning p readings (starts p))) here (right.each_end readings (starts p) known (starts_in_range p image right.variables) n (subst IsOver (sym here) tt))

    tell : List Var → List Tag → Told
    tell vs ts = record { lines = variable_lines vs s.variables ++ output_lines ts s.outputs ++ steps_line steps; status = 0 }

    lines : Standing → Told
    lines t = record { lines = variable_lines t.image.vars t.variables ++ output_lines t.image.tags t.outputs ++ steps_line steps; status = 0 }

-- an image whose run trapped
pub image_trapped : (readings : List Reading) (image : Image) (n at : ℕ) (k : TrapKind) (new : Standing) (told : Told) → run image readings 0 n (opening image (map start_of image.vars)) ≡ Trapped at (trap_of k)
    → new ≡ record (started image) { outputs = unset image }
    → told ≡ refused_with (variable_lines new.image.vars new.variables ++ output_lines new.image.tags new.outputs ++ trap_line (word_of k) at) → TellsImage image readings told
image_trapped readings image n at k new told r e l p right known = tells_trap p readings image (meaning p readings (starts p)) n at k told here ends (l ∙ ap lines e ∙ ap (λ vs. tell vs (map start_of vs) image.tags) right.variables ∙ ap (tell p.variables (starts p)) right.tags)
  where
    here : run image readings 0 n (opening image (starts p)) ≡ Trapped at (trap_of k)
    here = run_starts p readings image n _ right.variables r

    ends : EndsAs (Trapped at (trap_of k)) (meaning p readings (starts p))
    ends = subst (λ z. EndsAs z (meaning p readings (starts p))) here (right.each_end readings (starts p) known (starts_in_range p image right.variables) n (subst IsOver (sym here) tt))

    tell : List Var → List ℤ → List Tag → Told
    tell vs ns ts = refused_with (variable_lines vs ns ++ output_lines ts (unset image) ++ trap_line (word_of k) at)

    lines : Standing → Told
    lines t = refused_with (variable_lines t.image.vars t.variables ++ output_lines t.image.tags t.outputs ++ trap_line (word_of k) at)

-- what the image tells is what the program tells
pub tree_told : (tree : Tree) (image : Image) (inputs : List (List ℕ)) (told : Told) → elaborated tree ≡ elaborated_text tree → IsAssembled tree image → TellsGivenImage image inputs told → TellsTree tree inputs told
tree_told tree image inputs told same a h =
    subst (λ r. TellsResolved r inputs told) (sym a.resolved ∙ same) (given (readings_given image.tags inputs) refl h)
  where
    given : (r : Result (List Reading) ℕ) → readings_given image.tags inputs ≡ r → TellsKnown image r told → TellsGiven a.program (readings_given a.program.tags inputs) told
    given (Ok readings) e h =
        let these : readings_given a.program.tags inputs ≡ Ok readings = ap (λ ts. readings_given ts inputs) (sym a.right.tags) ∙ e in
        subst (λ r. TellsGiven a.program r told) (sym these)
        (subst (λ i. TellsScan a.program readings i (meaning a.program readings (starts a.program)) told) a.coded (h a.program a.right (readings_are image.tags inputs readings e)))
    given (Err k) e h =
        let these : readings_given a.program.tags inputs ≡ Err k = ap (λ ts. readings_given ts inputs) (sym a.right.tags) ∙ e in
        subst (λ r. TellsGiven a.program r told) (sym these) h

pub tree_told_by : {E : Type 0} (tree : Tree) (image : Image) (inputs : List (List ℕ)) (r : Result Told E) → elaborated tree ≡ elaborated_text tree → IsAssembled tree image → IfOk r (TellsGivenImage image inputs) → IfOk r (TellsTree tree inputs)
tree_told_by tree image inputs (Ok told) same a h = tree_told tree image inputs told same a h
tree_told_by tree image inputs (Err e) same a h = tt

-- three parts in turn, the last where it is appended
pub parts_then : {A E : Type 0} (r : Result A E) (old a b c v o s : List ℕ) → a ≡ old ++ v → b ≡ a ++ o → OnOk r (c ≡ b ++ s) → OnOk r (c ≡ old ++ (v ++ o) ++ s)
parts_then (Ok x) old a b c v o s p q h = h ∙ ap (λ t. t ++ s) (q ∙ ap (λ t. t ++ o) p ∙ append_assoc old v o)
parts_then (Err e) old a b c v o s p q h = tt

-- a scan from the start that ended
pub outcome_ended : (readings : List Reading) (image : Image) (old new : Standing) (steps : ℕ) (lines : List ℕ) → old ≡ started image → Ends old readings steps new
    → lines ≡ variable_lines new.image.vars new.variables ++ output_lines new.image.tags new.outputs ++ steps_line steps → TellsImage image readings (record { lines = lines; status = 0 })
outcome_ended readings image old new steps lines start ends l =
    let e : Ends (started image) readings steps new = subst (λ o. Ends o readings steps new) start ends in
    image_ended readings image e.0 steps e.1 new _ e.2 e.3 (ap (λ t. record { lines = t; status = 0 }) l)

-- a scan from the start that trapped
pub outcome_trapped : (readings : List Reading) (image : Image) (old new : Standing) (at : ℕ) (k : TrapKind) (word lines : List ℕ) → old ≡ started image → Traps old readings at (trap_of k) new → word ≡ word_of k
    → lines ≡ variable_lines new.image.vars new.variables ++ output_lines new.image.tags new.outputs ++ trap_line word at → TellsImage image readings (refused_with lines)
outcome_trapped readings image old new at k word lines start traps w l =
    let e : Traps (started image) readings at (trap_of k) new = subst (λ o. Traps o readings at (trap_of k) new) start traps in
    image_trapped readings image e.0 at k new _ e.1 e.2 (ap refused_with (l ∙ ap (λ t. variable_lines new.image.vars new.variables ++ output_lines new.image.tags new.outputs ++ trap_line t at) w))

-- the outcome of a scan from the start, by how it ended
pub outcome_told : (readings : List Reading) (image : Image) (old new : Standing) (ending : Result Scan Trap) (none lines : List ℕ) (status : ℕ) → old ≡ started image
    → IfOk ending (λ scan. Ends old readings scan.steps new) → IfErr ending (λ trap. Traps old readings trap.at (trap_of trap.kind) new)
    → none ≡ [] → lines ≡ none ++ standing_lines new ++ ending_line ending → status ≡ ending_status ending → TellsImage image readings (record { lines = lines; status = status })
outcome_told readings image old new ending none lines status start ended trapped empty l s =
    subst (λ (n : ℕ). TellsImage image readings (record { lines = lines; status = n })) (sym s)
    (told ending ended trapped (l ∙ ap (λ t. t ++ standing_lines new ++ ending_line ending) empty))
  where
    told : (e : Result Scan Trap) → IfOk e (λ scan. Ends old readings scan.steps new) → IfErr e (λ trap. Traps old readings trap.at (trap_of trap.kind) new)
        → lines ≡ variable_lines new.image.vars new.variables ++ output_lines new.image.tags new.outputs ++ ending_line e → TellsImage image readings (record { lines = lines; status = ending_status e })
    told (Ok scan) ends traps is = outcome_ended readings image old new scan.steps lines start ends is
    told (Err trap) ends traps is = outcome_trapped readings image old new trap.at trap.kind (word_of trap.kind) lines start traps refl is

-- an image of a trial whose readings are known, or the line that is refused
pub image_given : {E : Type 0} (image : Image) (trial : Standing) (tags : List Tag) (inputs : List (List ℕ)) (readings : List Reading) (r : Result Told E) → trial ≡ started image → tags ≡ trial.image.tags
    → Ok readings ≡ readings_given tags inputs → IfOk r (TellsImage image readings) → IfOk r (TellsGivenImage image inputs)
image_given image trial tags inputs readings (Ok told) start are given h =
    subst (λ (k : Result (List Reading) ℕ). TellsKnown image k told) (given ∙ ap (λ ts. readings_given ts inputs) (are ∙ ap (λ t. t.image.tags) start)) h
image_given image trial tags inputs readings (Err e) start are given h = tt

pub image_refused : {E : Type 0} (image : Image) (trial : Standing) (tags : List Tag) (inputs : List (List ℕ)) (number : ℕ) (r : Result Told E) → trial ≡ started image → tags ≡ trial.image.tags
    → Err number ≡ readings_given tags inputs → IfOk r (λ o. o ≡ refused_with (bad_input_line number)) → IfOk r (TellsGivenImage image inputs)
image_refused image trial tags inputs number (Ok told) start are given h =
    subst (λ (k : Result (List Reading) ℕ). TellsKnown image k told) (given ∙ ap (λ ts. readings_given ts inputs) (are ∙ ap (λ t. t.image.tags) start)) h
image_refused image trial tags inputs number (Err e) start are given h = tt

-- what is told of a text that isn't read
pub unread_told : {E : Type 0} (answer : Result Tree ReadFault) (inputs : List (List ℕ)) (fault : ReadFault) (r : Result Told E) → (fault ≡ record { line = 0; kind = read_fault.OutOfMemory }) ⊎ (answer ≡ Err fault)
    → OnOk r (fault.kind ≢ read_fault.OutOfMemory) → IfOk r (λ o. o ≡ refused_with (unread_line (reading.word_of fault.kind) fault.line)) → IfOk r (TellsReading answer inputs)
unread_told answer inputs fault (Ok told) (inl none) real is = absurd (real (ap (λ f. f.kind) none))
unread_told answer inputs fault (Ok told) (inr why) real is = subst (λ (a : Result Tree ReadFault). TellsReading a inputs told) (sym why) is
unread_told answer inputs fault (Err e) why real is = tt

-- what is told of a program without code
pub unassembled_told : {E : Type 0} (tree : Tree) (inputs : List (List ℕ)) (fault : AsmFault) (r : Result Told E) → elaborated tree ≡ elaborated_text tree → (elaborated tree ≡ Err fault) ⊎ (fault ≡ assembling.out_of_memory)
    → OnOk r (fault.kind ≢ asm_fault.OutOfMemory) → IfOk r (λ o. o ≡ refused_with (unassembled_line (assembling.word_of fault.kind) fault.line)) → IfOk r (TellsTree tree inputs)
unassembled_told tree inputs fault (Ok told) same (inl why) real is = subst (λ (p : Result Program AsmFault). TellsResolved p inputs told) (sym why ∙ same) is
unassembled_told tree inputs fault (Ok told) same (inr none) real is = absurd (real (ap (λ f. f.kind) none))
unassembled_told tree inputs fault (Err e) same why real is = tt
