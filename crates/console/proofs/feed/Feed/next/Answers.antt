use Rattle.std.proofs.Common.{sym, refl}
use Rattle.std.proofs.lemmas.List.{take_rest}
use Rattle.console.proofs.Feeds.{none_answer, none_place, none_taken}
use Rattle.console.proofs.feed.Feed.next.Goals as goal

pub returns-then-is_empty : goal.returns-then-is_empty
returns-then-is_empty c =
    let bs = c.args.self.now.bytes.now in
    let at = c.args.self.now.at in
    let count = c.args.self.now.count in
    let same = take_rest bs at in
    let none = sym c.if-is_empty.ensures in
    record { answer = none_answer at count _ _ same none; source = refl; place = none_place at count _ _ same none; taken = none_taken at count _ _ same none }
