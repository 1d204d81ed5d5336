-- What is printed grows, and what isn't well is told.
use Rattle.std.proofs.Common.{◌≡◌, ◌≢◌, ◌⊎◌, inl, inr, ℕ, List, [], ◌++◌, Option, Some, None, ap, sym, ◌∙◌, subst, append_assoc, arith, Ok}
use Rattle.modbus_frame.specs.declared.link.LinkFault.{LinkFault}
use Rattle.modbus_frame.specs.Fault.{link_fault_word}
use Rattle.inverter_sim.specs.State.{PlantState}
use Rattle.commands.specs.Printed.{IsUnlinked, unlinked_with}
use Rattle.commands.specs.Report.{link_line, listening_line, no_memory_line}
use Rattle.commands.specs.Simulate.{GivesDefined}
use Rattle.commands.specs.Told.{IsTold, Told, refused_with}
use Rattle.command_files.specs.Printing.{Fails, Grows}
use Rattle.command_line.specs.Simulated.{ServesPlant, Simulates}

grows_on : (a b c : Option (List ℕ)) → Grows a b → Grows b c → Grows a c
grows_on None b c (more, h) (rest, k) = ([], tt)
grows_on (Some xs) None c (more, h) (rest, k) = absurd h
grows_on (Some xs) (Some ys) None (more, h) (rest, k) = absurd k
grows_on (Some xs) (Some ys) (Some zs) (more, h) (rest, k) = (more ++ rest, k ∙ (ap (λ bs. bs ++ rest) h ∙ append_assoc xs more rest))

told_grows : (old new : Option (List ℕ)) (told : Told) (status : ℕ) → IsTold old new told status → Grows old new
told_grows old new told status (inl h) = (told.lines, h.0)
told_grows old new told status (inr h) = ((h.0).front, (h.0).went)

told_fails : (old new : Option (List ℕ)) (told : Told) (status : ℕ) → told.status ≢ 0 → IsTold old new told status → Fails old new status
told_fails old new told status ill (inl h) = ((λ well. ill (sym h.1 ∙ well)), told_grows old new told status (inl h))
told_fails old new told status ill (inr h) = ((λ well. let one = h.1 in omega (arith, one, well)), told_grows old new told status (inr h))

unlinked_fails : (fault : LinkFault) (old new : Option (List ℕ)) (status : ℕ) → IsUnlinked fault old new status → Fails old new status
unlinked_fails fault old new status (inl h) = told_fails old new (unlinked_with (link_line (link_fault_word fault))) status (λ e. omega (arith, e)) h
unlinked_fails fault old new status (inr h) = told_fails old new (refused_with no_memory_line) status (λ e. omega (arith, e)) h

port_grows : (port : ℕ) (old new : Option (List ℕ)) (status : ℕ)
    → IsTold old new (record { lines = listening_line port; status = 0 }) status ⊎ IsTold old new (refused_with no_memory_line) status → Grows old new
port_grows port old new status (inl h) = told_grows old new (record { lines = listening_line port; status = 0 }) status h
port_grows port old new status (inr h) = told_grows old new (refused_with no_memory_line) status h

-- the line of a port was printed, and then a link failed
pub fails_behind : (port : ℕ) (fault : LinkFault) (a b c : Option (List ℕ)) (first status : ℕ)
    → IsTold a b (record { lines = listening_line port; status = 0 }) first ⊎ IsTold a b (refused_with no_memory_line) first
    → IsUnlinked fault b c status → Fails a c status
fails_behind port fault a b c first status told unlinked =
    let fails = unlinked_fails fault b c status unlinked in
    (fails.0, grows_on a b c (port_grows port a b first told) fails.1)

-- nothing was printed before a plant was had, and it is served
pub simulates_by : (plant : List ℕ) (texts : List (List ℕ)) (connections : Option ℕ) (p : PlantState) (a b c : Option (List ℕ)) (status : ℕ)
    → GivesDefined plant texts (Ok p) → b ≡ a → ServesPlant connections p b c status → Simulates plant texts connections a c status
simulates_by plant texts connections p a b c status given same serves =
    inl (p, given, subst (λ (old : Option (List ℕ)). ServesPlant connections p old c status) same serves)
