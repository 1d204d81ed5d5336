-- inner: where in a list the first alarm of each subject is, as it is looked up. No standard says it.
use Rattle.std.specs.Prelude.{◌≡◌, ℕ, ◌+◌, Bool, List, [], ◌∷◌, Option, Some, None, if◌then◌else◌}
use Rattle.std.specs.HashMap.{get}
use Rattle.service_alarms.specs.declared.alarm.Alarm.{Alarm}
use Rattle.service_alarms.specs.declared.alarm.AlarmSubject.{AlarmSubject}
use Rattle.service_alarms.specs.declared.places.AlarmPlaces.{AlarmPlaces}
use Rattle.service_alarms.specs.declared.standing.StandingAlarm.{StandingAlarm}
use Rattle.service_alarms.specs.contracts.alarm.AlarmSubjectPartialEq.TheImpl as subject_eq
use Rattle.service_alarms.specs.Changing.{subject_of}

-- two subjects are one
abbrev pub same : AlarmSubject → AlarmSubject → Bool
same = (subject_eq.ghosts).eq

-- what something that stood is of
abbrev pub stood_for : StandingAlarm → AlarmSubject
stood_for s = subject_of s.alarm

-- the place of the first of a subject, of those of which the first has the place n
abbrev pub place_from : {A : Type 0} → (A → AlarmSubject) → List A → ℕ → AlarmSubject → Option ℕ
place_from f [] n x = None
place_from f (a ∷ more) n x = if same (f a) x then Some n else place_from f more (n + 1) x

-- what is told of each subject is the place of its first one
abbrev pub Tells : {A : Type 0} → (AlarmSubject → Option ℕ) → (A → AlarmSubject) → List A → ℕ → Type 0
Tells told f list n = (x : AlarmSubject) → told x ≡ place_from f list n x

-- the table tells of these alarms, or of what stood
abbrev pub TellOfAlarms : AlarmPlaces → List Alarm → Type 0
TellOfAlarms places alarms = Tells (get same places.numbers) subject_of alarms 0

abbrev pub TellOfStood : AlarmPlaces → List StandingAlarm → Type 0
TellOfStood places stood = Tells (get same places.numbers) stood_for stood 0

-- what stood, from the first of a subject on
abbrev pub from_first : List StandingAlarm → AlarmSubject → List StandingAlarm
from_first [] x = []
from_first (s ∷ ss) x = if same (stood_for s) x then s ∷ ss else from_first ss x
