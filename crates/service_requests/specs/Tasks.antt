-- Requests to devices that are still to be made, under way, or over. No standard says how they are marked; it is this
-- project's.
use Rattle.std.specs.Prelude.{◌≡◌, ℕ, ◌==◌, ◌&&◌, not, Bool, true, false, List, slice_get, slice_set, Option, None, Some, if◌then◌else◌}
use Rattle.std.specs.List.{position}
use Rattle.std.specs.Option.{option_map_or}
use Rattle.service_requests.specs.declared.task.TaskMark.{TaskMark}
use Rattle.service_requests.specs.declared.task.TaskMark.TheVariants as mark
use Rattle.service_requests.specs.declared.task.Task.{Task}

abbrev pub is_asked_by : TaskMark → ℕ → ℕ → Bool
is_asked_by mark.Asked own device = own == device
is_asked_by mark.Due own device = false
is_asked_by mark.Done own device = false

-- one to the device that is under way
abbrev pub is_asked : ℕ → Task → Bool
is_asked device t = is_asked_by t.mark t.device device

abbrev pub is_due_by : TaskMark → ℕ → ℕ → Bool
is_due_by mark.Due own device = own == device
is_due_by mark.Asked own device = false
is_due_by mark.Done own device = false

-- one to the device that is still to be made
abbrev pub is_due : ℕ → Task → Bool
is_due device t = is_due_by t.mark t.device device

abbrev pub IsDone : Task → Type 0
IsDone t = t.mark ≡ mark.Done

abbrev pub is_done_by : TaskMark → Bool
is_done_by mark.Due = false
is_done_by mark.Asked = false
is_done_by mark.Done = true

abbrev pub is_done : Task → Bool
is_done t = is_done_by t.mark

-- the one at this place is still to be made, or under way
abbrev pub is_open_at : List Task → ℕ → Bool
is_open_at tasks i = option_map_or (λ (t : Task). not (is_done t)) (slice_get tasks i) false

-- that after which it is made is so
abbrev pub waits : List Task → Task → Bool
waits tasks t = option_map_or (is_open_at tasks) t.after false

-- one to the device that is still to be made, and waits for no other one
abbrev pub is_next : ℕ → List Task → Task → Bool
is_next device tasks t = is_due device t && not (waits tasks t)

-- the i-th one has this mark from now on
abbrev pub with_mark : ℕ → TaskMark → List Task → List Task
with_mark i m tasks = option_map_or (λ (t : Task). slice_set tasks i (record t { mark = m })) (slice_get tasks i) tasks

abbrev pub due_unless : Option ℕ → ℕ → List Task → Option ℕ
due_unless None device tasks = position (is_next device tasks) tasks
due_unless (Some i) device tasks = None

-- the place of the device's next request: none while one is under way, else the first that is still to be made and waits for no
-- other one
abbrev pub next_place : ℕ → List Task → Option ℕ
next_place device tasks = due_unless (position (is_asked device) tasks) device tasks

-- One to the device is over from now on, any other stays as it is.
abbrev pub given_up : ℕ → Task → Task
given_up device t = if t.device == device then record t { mark = mark.Done } else t
