use Rattle.std.proofs.Common.{rules, ◌≡◌, [], Ok, refl, arith}
use Rattle.scan_code.specs.ImageReading.{tags_at}
use Rattle.scan_code.proofs.ImageTaken.{tags_counted, vars_counted}
use Rattle.scan_code.proofs.image_reader.Unread.tables.Goals as goal

pub invariant_of-result : goal.invariant_of-result
invariant_of-result c =
    let vars = vars_counted c.args.vars [] c.args.self.now (c.in_ok-vars.vars, c.vars.new.self) c.in_ok-vars.ensures refl refl in
    let read : tags_at c.args.tags c.in_ok-vars.vars [] c.vars.new.self ≡ Ok (c.in_ok-tags.tags, c.tags.new.self) = search rules in
    let tags = tags_counted c.args.tags c.in_ok-vars.vars [] c.vars.new.self (c.in_ok-tags.tags, c.tags.new.self) read vars.1 in
    record {
      versioned = c.requires.version;
      few_variables = omega (arith, vars.0, c.requires.vars);
      few_tags = omega (arith, tags.0, c.requires.tags);
      short = search rules;
      distinct = tags.1;
      whole_bools = vars.2;
    }
