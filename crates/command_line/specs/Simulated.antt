-- What `simulate` prints and serves.
-- MODBUS Messaging on TCP/IP Implementation Guide, section 4.4.2.
use Rattle.std.specs.Prelude.{◌≡◌, ◌⊎◌, ℕ, List, Option, None, Some, Result, Ok, Err}
use Rattle.std.specs.Io.KnownBytes.{Appends}
use Rattle.modbus_frame.specs.declared.link.LinkFault.{LinkFault}
use Rattle.modbus_frame.specs.Link.{LinkState}
use Rattle.modbus_frame.specs.Serving.{Serves}
use Rattle.inverter_sim.specs.Link.{AnswersFrame}
use Rattle.inverter_sim.specs.State.{PlantState}
use Rattle.commands.specs.Printed.{IsUnlinked}
use Rattle.commands.specs.Report.{listening_line}
use Rattle.commands.specs.Simulate.{GivesDefined, TellsNoPlant}
use Rattle.command_files.specs.Printing.{Fails}

-- nothing is printed of a link that was served to its end; of another one the fault is told
abbrev pub EndsServed : Result ℕ LinkFault → Option (List ℕ) → Option (List ℕ) → ℕ → Type 0
EndsServed (Ok frames) old new status = (status ≡ 0) × (new ≡ old)
EndsServed (Err fault) old new status = IsUnlinked fault old new status

-- the plant answers what comes over a link, from the link's state on, and nothing else goes over it
pub record ServesOver (a b : LinkState) (p q : PlantState) (old new : Option (List ℕ)) (status : ℕ) : Type 0 where
  pub served : Result ℕ LinkFault
  pub serves : Serves AnswersFrame a b p q served
  pub told : EndsServed served old new status

-- over a connection to which these bytes were written before; or it isn't served
abbrev pub ServesStream : Option (List ℕ) → PlantState → Option (List ℕ) → Option (List ℕ) → ℕ → Type 0
ServesStream sent p old new status =
    ((a b : LinkState) × (q : PlantState) × (a.sent ≡ sent) × ServesOver a b p q old new status) ⊎ Fails old new status

-- the line that names a port is printed, and then the plant is served over one connection
pub record ServesOne (p : PlantState) (old new : Option (List ℕ)) (status : ℕ) : Type 0 where
  pub port : ℕ
  pub written : Option (List ℕ)
  pub listens : Appends old written (listening_line port)
  pub sent : Option (List ℕ)
  pub serves : ServesStream sent p written new status

-- the line is printed, and several connections are served to their end, of which nothing more is said
pub record ServesMany (old new : Option (List ℕ)) (status : ℕ) : Type 0 where
  pub port : ℕ
  pub listens : Appends old new (listening_line port)
  pub well : status ≡ 0

-- to one connection, or to as many as is said
abbrev pub ServesPlant : Option ℕ → PlantState → Option (List ℕ) → Option (List ℕ) → ℕ → Type 0
ServesPlant None p old new status = ServesOne p old new status ⊎ Fails old new status
ServesPlant (Some connections) p old new status = ServesMany old new status ⊎ Fails old new status

-- the plant of these texts is served, or it is told why there is none
abbrev pub Simulates : List ℕ → List (List ℕ) → Option ℕ → Option (List ℕ) → Option (List ℕ) → ℕ → Type 0
Simulates plant texts connections old new status =
    ((p : PlantState) × GivesDefined plant texts (Ok p) × ServesPlant connections p old new status)
    ⊎ TellsNoPlant plant texts old new status
