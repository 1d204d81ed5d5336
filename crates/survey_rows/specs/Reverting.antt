-- The times after which a device ends by itself what was written to it, and whether they are long enough (SunSpec Information Model
-- Reference, the points of models 123, 124 and 704 whose names end in RvrtTms).
use Rattle.std.specs.Prelude.{ℕ, ◌*◌, nat_lt, ◌==◌, List, [], ◌∷◌, find, Option, Some, None, option_map, codes, bytes_eq, if◌then◌else◌}
use Rattle.survey_rows.specs.declared.reversion.Reversion.{Reversion}
use Rattle.survey_rows.specs.declared.reversion.Reversion.TheVariants.{Never, WithinPeriods, WithinRewrites, Lasts}

-- points of model 123, each with the one that says for how many seconds it counts
abbrev pub controls_times : List (List ℕ × List ℕ)
controls_times =
    (codes "Conn", codes "Conn_RvrtTms") ∷
    (codes "WMaxLimPct", codes "WMaxLimPct_RvrtTms") ∷ (codes "WMaxLim_Ena", codes "WMaxLimPct_RvrtTms") ∷
    (codes "OutPFSet", codes "OutPFSet_RvrtTms") ∷ (codes "OutPFSet_Ena", codes "OutPFSet_RvrtTms") ∷
    (codes "VArWMaxPct", codes "VArPct_RvrtTms") ∷ (codes "VArMaxPct", codes "VArPct_RvrtTms") ∷ (codes "VArAvalPct", codes "VArPct_RvrtTms") ∷
    (codes "VArPct_Mod", codes "VArPct_RvrtTms") ∷ (codes "VArPct_Ena", codes "VArPct_RvrtTms") ∷ []

-- of model 124
abbrev pub storage_times : List (List ℕ × List ℕ)
storage_times = (codes "OutWRte", codes "InOutWRte_RvrtTms") ∷ (codes "InWRte", codes "InOutWRte_RvrtTms") ∷ []

-- of model 704
abbrev pub der_times : List (List ℕ × List ℕ)
der_times =
    (codes "PFWInjEna", codes "PFWInjRvrtTms") ∷ (codes "PFWAbsEna", codes "PFWAbsRvrtTms") ∷
    (codes "WMaxLimPct", codes "WMaxLimPctRvrtTms") ∷ (codes "WMaxLimPctEna", codes "WMaxLimPctRvrtTms") ∷
    (codes "WSet", codes "WSetRvrtTms") ∷ (codes "WSetPct", codes "WSetRvrtTms") ∷
    (codes "WSetMod", codes "WSetRvrtTms") ∷ (codes "WSetEna", codes "WSetRvrtTms") ∷
    (codes "VarSet", codes "VarSetRvrtTms") ∷ (codes "VarSetPct", codes "VarSetRvrtTms") ∷ (codes "VarSetMod", codes "VarSetRvrtTms") ∷
    (codes "VarSetPri", codes "VarSetRvrtTms") ∷ (codes "VarSetEna", codes "VarSetRvrtTms") ∷ []

abbrev pub time_in : List (List ℕ × List ℕ) → List ℕ → Option (List ℕ)
time_in times point = option_map (λ e. e.1) (find (λ e. bytes_eq point e.0) times)

-- the point of a model that says for how many seconds another one of it counts
abbrev pub reversion_point : (model : ℕ) (point : List ℕ) → Option (List ℕ)
reversion_point model point =
    if model == 123 then time_in controls_times point else (if model == 124 then time_in storage_times point else (if model == 704 then time_in der_times point else None))

-- Whether so many seconds are long enough, where what counts is written each `every` milliseconds, or again after `rewrite` seconds:
-- twice each of these, so that one write may be lost.
abbrev pub reversion_of : (seconds : Option ℕ) (every rewrite : ℕ) → Reversion
reversion_of None every rewrite = Never
reversion_of (Some seconds) every rewrite =
    if seconds == 0 then Never else (if nat_lt (seconds * 1000) (2 * every) then WithinPeriods else (if nat_lt seconds (2 * rewrite) then WithinRewrites else Lasts))
