-- What is told of what is known: the result, the deferred values, and what differs from what is declared.
-- IEC 61131-3 edition 2, 2.4.3 (variables), 3.2.2 (the current result and deferred values).
use Rattle.std.specs.Prelude.{map, option_map}
use Rattle.facts.specs.declared.abstract_value.AbstractValue.{AbstractValue}
use Rattle.facts.specs.declared.fact.Fact.{Fact}
use Rattle.facts.specs.Flow.{Context}
use Rattle.facts.specs.Numbered.{differing, numbers_of}
use Rattle.facts.specs.Slots.{Slot, Unreached, Holds, Clash, entry_fact}
use Rattle.verifier.specs.declared.told.Shown.{Shown}
use Rattle.verifier.specs.declared.told.Standing.{Standing}
use Rattle.verifier.specs.declared.told.Standing.TheVariants as standing
use Rattle.verifier.specs.declared.told.Told.{Told}

abbrev pub shown : AbstractValue → Shown
shown v = record { kind = v.kind; span = v.span }

-- beside what is known at entry
abbrev pub told_beside : Fact → Fact → Told
told_beside entry f = record {
  result = option_map shown f.result;
  deferred = map (option_map shown) f.deferred;
  variables = differing 0 f.variables entry.variables;
  inputs = differing 0 f.inputs entry.inputs;
  present = numbers_of 0 f.present;
}

abbrev pub told_of : Context → Fact → Told
told_of c f = told_beside (entry_fact c) f

abbrev pub standing_beside : Fact → Slot → Standing
standing_beside entry Unreached = standing.Unreached
standing_beside entry (Holds f) = standing.Known (told_beside entry f)
standing_beside entry Clash = standing.Clash

-- before an instruction
abbrev pub standing_of : Context → Slot → Standing
standing_of c slot = standing_beside (entry_fact c) slot
