-- When something is to be done next.
use Rattle.std.proofs.Common.{◌≡◌, ◌⊎◌, inl, inr, ℕ, List, Some, slice_get, sym, subst, ◌∙◌, arith}
use Rattle.std.specs.Prelude.{◌<◌, ◌≤◌, min}
use Rattle.std.proofs.lemmas.Bool.{cases_lt}
use Rattle.service_parts.specs.declared.device_connection.DeviceConnection.{DeviceConnection}
use Rattle.service_parts.specs.Waking.{IsDueOf, due_at}

abbrev pub IsOneOf : (at : ℕ) → List DeviceConnection → (time : ℕ) → Type 0
IsOneOf at lines time = (time ≡ at) ⊎ IsDueOf lines time

pub min_one : (a b : ℕ) → (min a b ≡ a) ⊎ (min a b ≡ b)
min_one a b = go (cases_lt a b)
  where
    go : (a < b) ⊎ (b ≤ a) → (min a b ≡ a) ⊎ (min a b ≡ b)
    go (inl less) = inl (omega (arith, less))
    go (inr less) = inr (omega (arith, less))

pub min_due : (at : ℕ) (lines : List DeviceConnection) (time due link : ℕ) (line : DeviceConnection) → IsOneOf at lines time → slice_get lines link ≡ Some line → due ≡ due_at line → IsOneOf at lines (min time due)
min_due at lines time due link line before there is = go (min_one time due)
  where
    go : (min time due ≡ time) ⊎ (min time due ≡ due) → IsOneOf at lines (min time due)
    go (inl same) = subst (IsOneOf at lines) (sym same) before
    go (inr same) = inr (record { link = link; line = line; there = there; due = same ∙ is })
