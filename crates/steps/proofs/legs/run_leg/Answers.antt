use Rattle.std.proofs.Common.{is_ok, sym, ap, subst}
use Rattle.meaning.specs.declared.content.Content.{Content}
use Rattle.meaning.specs.Rules.{content_of}
use Rattle.balances.specs.Chains.{Writes, leg_of}
use Rattle.steps.specs.Shown.{Stepped}
use Rattle.steps.proofs.legs.run_leg.Goals as goal

pub returns-in-Post : goal.returns-in-Post
returns-in-Post g c =
    let e = c.take_post.ensures in
    let policy = g.P.Policy.admits c.args.policy.now in
    let was = c.args.chain.now in
    let o = c.args.order.now in
    let is = sym (ap (content_of was.moment) c.in-Post.is) in
    record {
      goes_on = e.goes_on;
      written = λ le. subst (λ (k : Content). Writes was (is_ok c.take_post.result) (leg_of was o.number o.linked k) c.take_post.new.chain) is e.written;
      leg = λ J shown lt le. subst (λ (k : Content). Stepped policy J was.moment o.number k c.take_post.result c.take_post.new.chain.balances.now) is (e.leg policy J was.moment shown lt);
    }

pub returns-in-Void : goal.returns-in-Void
returns-in-Void g c =
    let e = c.take_void.ensures in
    let policy = g.P.Policy.admits c.args.policy.now in
    let was = c.args.chain.now in
    let o = c.args.order.now in
    let is = sym (ap (content_of was.moment) c.in-Void.is) in
    record {
      goes_on = e.goes_on;
      written = λ le. subst (λ (k : Content). Writes was (is_ok c.take_void.result) (leg_of was o.number o.linked k) c.take_void.new.chain) is e.written;
      leg = λ J shown lt le. subst (λ (k : Content). Stepped policy J was.moment o.number k c.take_void.result c.take_void.new.chain.balances.now) is (e.leg policy J was.moment shown lt);
    }
