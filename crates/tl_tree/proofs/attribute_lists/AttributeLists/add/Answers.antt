use Rattle.std.proofs.Common.{inl, is_ok, refl}
use Rattle.tl_tree.proofs.Lists.{pushed-one}
use Rattle.tl_tree.proofs.attribute_lists.AttributeLists.add.Goals as goal

pub returns-then-count-clause-lists : goal.returns-then-count-clause-lists
returns-then-count-clause-lists c = record { tags = inl refl; html = inl refl; body = inl refl }

pub returns-in_err-push-in-Tags-clause-lists : goal.returns-in_err-push-in-Tags-clause-lists
returns-in_err-push-in-Tags-clause-lists c =
    record { tags = pushed-one (is_ok c.push.result) c.args.attribute c.args.self.now.tags.items c.push.new.self.items c.push.ensures.items; html = inl refl; body = inl refl }

pub returns-in_err-push_placed-in-Html-clause-lists : goal.returns-in_err-push_placed-in-Html-clause-lists
returns-in_err-push_placed-in-Html-clause-lists c =
    record { tags = inl refl; html = c.push_placed.ensures.one_more; body = inl refl }

pub returns-in_err-push_placed-in-Body-clause-lists : goal.returns-in_err-push_placed-in-Body-clause-lists
returns-in_err-push_placed-in-Body-clause-lists c =
    record { tags = inl refl; html = inl refl; body = c.push_placed-in-Body.ensures.one_more }

pub returns-in_ok-push-in-Tags-clause-lists : goal.returns-in_ok-push-in-Tags-clause-lists
returns-in_ok-push-in-Tags-clause-lists c =
    record { tags = pushed-one (is_ok c.push.result) c.args.attribute c.args.self.now.tags.items c.push.new.self.items c.push.ensures.items; html = inl refl; body = inl refl }

pub returns-in_ok-push_placed-in-Html-clause-lists : goal.returns-in_ok-push_placed-in-Html-clause-lists
returns-in_ok-push_placed-in-Html-clause-lists c =
    record { tags = inl refl; html = c.push_placed.ensures.one_more; body = inl refl }

pub returns-in_ok-push_placed-in-Body-clause-lists : goal.returns-in_ok-push_placed-in-Body-clause-lists
returns-in_ok-push_placed-in-Body-clause-lists c =
    record { tags = inl refl; html = inl refl; body = c.push_placed-in-Body.ensures.one_more }

pub returns-in_err-push_placed-in-Html-clause-placed : goal.returns-in_err-push_placed-in-Html-clause-placed
returns-in_err-push_placed-in-Html-clause-placed c key_of own both =
    record { html = c.push_placed.ensures.placed key_of own both.html; body = both.body }

pub returns-in_err-push_placed-in-Body-clause-placed : goal.returns-in_err-push_placed-in-Body-clause-placed
returns-in_err-push_placed-in-Body-clause-placed c key_of own both =
    record { html = both.html; body = c.push_placed-in-Body.ensures.placed key_of own both.body }

pub returns-in_ok-push_placed-in-Html-clause-placed : goal.returns-in_ok-push_placed-in-Html-clause-placed
returns-in_ok-push_placed-in-Html-clause-placed c key_of own both =
    record { html = c.push_placed.ensures.placed key_of own both.html; body = both.body }

pub returns-in_ok-push_placed-in-Body-clause-placed : goal.returns-in_ok-push_placed-in-Body-clause-placed
returns-in_ok-push_placed-in-Body-clause-placed c key_of own both =
    record { html = both.html; body = c.push_placed-in-Body.ensures.placed key_of own both.body }
