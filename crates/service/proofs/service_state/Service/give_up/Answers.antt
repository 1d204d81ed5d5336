use Rattle.service.specs.Counting.{KeepsLosses}
use Rattle.service.specs.declared.notice.Loss.TheVariants as loss
use Rattle.service.proofs.Counted.{keeps_on, once_after, same_devices}
use Rattle.service.proofs.service_state.Service.give_up.Goals as goal

pub returns-then-is_silent-clause-counts : goal.returns-then-is_silent-clause-counts
returns-then-is_silent-clause-counts c =
    let before : KeepsLosses c.args.self.now.side c.note_write.new.self =
    keeps_on c.args.self.now.side c.miss_link.new.self c.note_write.new.self (same_devices c.args.self.now.side c.miss_link.new.self c.miss_link.ensures.devices)
    (keeps_on c.miss_link.new.self c.lose_write.new.self c.note_write.new.self (same_devices c.miss_link.new.self c.lose_write.new.self c.lose_write.ensures.devices) c.note_write.ensures.counts) in
    once_after loss.Silent c.args.self.now.side c.note_write.new.self c.miss.new.self.side before c.miss.ensures.counts

pub returns-else-is_silent-clause-counts : goal.returns-else-is_silent-clause-counts
returns-else-is_silent-clause-counts c =
    let before : KeepsLosses c.args.self.now.side c.note_write.new.self =
    keeps_on c.args.self.now.side c.miss_link.new.self c.note_write.new.self (same_devices c.args.self.now.side c.miss_link.new.self c.miss_link.ensures.devices)
    (keeps_on c.miss_link.new.self c.lose_write.new.self c.note_write.new.self (same_devices c.miss_link.new.self c.lose_write.new.self c.lose_write.ensures.devices) c.note_write.ensures.counts) in
    once_after loss.Silent c.args.self.now.side c.doubt.new.self.side c.lose_if_bad.new.self.side (keeps_on c.args.self.now.side c.note_write.new.self c.doubt.new.self.side before c.doubt.ensures.counts) c.lose_if_bad.ensures.counts

pub returns-else-is_silent-clause-held : goal.returns-else-is_silent-clause-held
returns-else-is_silent-clause-held c = λ first within. c.lose_if_bad.ensures.held first (c.doubt.ensures.held first within)

pub returns-else-is_silent-clause-together : goal.returns-else-is_silent-clause-together
returns-else-is_silent-clause-together c = λ held first within before. c.lose_if_bad.ensures.together held first (c.doubt.ensures.held held within) (c.doubt.ensures.together held first within before)
