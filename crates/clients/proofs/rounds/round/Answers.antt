use Rattle.std.proofs.Common.{[], length, sym, ap, ◌∙◌}
use Rattle.journal.specs.Strips.{made_list, listed, used_of}
use Rattle.clients.specs.Rounds.{found}
use Rattle.clients.proofs.Memories.{writes_within, found_again, bytes_left, list_left, writes_as_found}
use Rattle.clients.proofs.rounds.round.Goals as goal

pub returns-clause-again : goal.returns-clause-again
returns-clause-again g c =
    let m = c.args.memory.now in
    let u = c.args.used in
    let made = c.make.ensures in
    let S = c.make.result in
    let begun = c.create-book.ensures in
    let B = c.create-book.result in
    let admits = g.P.Policy.admits c.args.policy in
    let os = c.args.orders.now in
    let ans = c.args.answers.now in
    let M = c.give_back.result.now in
    let F = c.close-strip.result.0 in
    let back = c.give_back.ensures.bytes in
    let wrote = c.run.ensures.after.journal in
    let new = writes_as_found admits m u S B.journal B.moment (g.P.Policy.admits B.policy) (ap g.P.Policy.admits begun.policy) begun.journal made.list made.spare begun.moment os ans in
    let bytes = back ∙ (ap (λ x. x.0.memory.now) c.close-strip.ensures ∙ bytes_left m u S B.journal begun.journal _ _ new _ (wrote.images []) made.bytes made.count) in
    let list = ap (λ x. listed x F.count) back ∙ (ap (λ x. listed x.0.memory.now x.0.count) c.close-strip.ensures ∙ list_left m u S B.journal begun.journal _ _ new _ wrote.entries made.list) in
    let used = c.used-used.ensures ∙ ap (λ x. used_of x (length (listed x F.count))) (sym back) in
    ap (made_list M) used ∙ found_again m u M F.count _ bytes list (writes_within admits (found m u admits) os ans)
