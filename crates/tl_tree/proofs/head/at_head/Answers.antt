use Rattle.std.proofs.Common.{IfOk, ap, subst, ◌≡◌, ◌∙◌}
use Rattle.tl_tree.proofs.Grown.{grows_trans}
use Rattle.tl_tree.proofs.HeadRows.{apart-none, apart-some, behind-within, front-within, headed-row, headless-row, nodes-within}
use Rattle.tl_dom_spec.specs.Path.{Nodes}
use Rattle.tl_tree.specs.Inner.Heads.{listed}
use Rattle.tl_tree.specs.Inner.Store.{nodes_of}
use Rattle.tl_tree.proofs.head.at_head.Goals as goal

pub returns-in_default-clause-stands : goal.returns-in_default-clause-stands
returns-in_default-clause-stands c =
    let s = c.args.store.now in
    let apart = c.in_ok-apart.apart in
    headless-row s (nodes_of s c.args.row) (nodes_of s c.args.late) apart.behind.items (apart-none s (nodes_of s c.args.row) apart c.in_default.is c.in_ok-apart.ensures)

pub add_all-requires-clause-nodes : goal.add_all-requires-clause-nodes
add_all-requires-clause-nodes c =
    let s = c.args.store.now in
    let apart = c.in_ok-apart.apart in
    let headed = apart-some s (nodes_of s c.args.row) apart c.in-Some.head c.in-Some.is c.in_ok-apart.ensures in
    nodes-within s c.join.new.self c.join.ensures.grows c.as_slice.result.now apart.front.items c.as_slice.ensures.value (front-within s (nodes_of s c.args.row) apart.front.items apart.behind.items c.in-Some.head headed)

pub add_all-requires-2-clause-nodes : goal.add_all-requires-2-clause-nodes
add_all-requires-2-clause-nodes c =
    let s = c.args.store.now in
    let apart = c.in_ok-apart.apart in
    let headed = apart-some s (nodes_of s c.args.row) apart c.in-Some.head c.in-Some.is c.in_ok-apart.ensures in
    let g = grows_trans s c.join.new.self c.add_all.new.store c.join.ensures.grows c.add_all.ensures.grows in
    nodes-within s c.add.new.self (grows_trans s c.add_all.new.store c.add.new.self g c.add.ensures.grows) c.as_slice-2.result.now _ (c.as_slice-2.ensures.value ∙ c.reverse.ensures.items) (behind-within s (nodes_of s c.args.row) apart.front.items apart.behind.items c.in-Some.head headed)

pub returns-clause-stands : goal.returns-clause-stands
returns-clause-stands c =
    let s = c.args.store.now in
    let apart = c.in_ok-apart.apart in
    let nodes = nodes_of s c.args.row in
    let headed = apart-some s nodes apart c.in-Some.head c.in-Some.is c.in_ok-apart.ensures in
    let last = c.add.new.self in
    subst (λ (all : Nodes). IfOk c.add_all-2.result (λ end. nodes_of c.add_all-2.new.store end ≡ all))
    (ap (listed last (nodes_of last c.in_ok-end.end)) (c.as_slice-2.ensures.value ∙ c.reverse.ensures.items)
    ∙ headed-row s c.join.new.self c.add_all.new.store last c.join.ensures.grows c.add_all.ensures.grows c.add.ensures.grows nodes (nodes_of s c.args.late) apart.front.items apart.behind.items c.in-Some.head headed c.in_ok-below.below c.in_ok-front.front c.in_ok-end.end c.in_ok-below.ensures.within c.in_ok-below.ensures.stands (c.in_ok-front.ensures.stands ∙ ap (listed c.join.new.self (nodes_of c.join.new.self 0)) c.as_slice.ensures.value) c.in_ok-end.ensures.stands)
    c.add_all-2.ensures.stands

pub returns-in_err-front-clause-grows : goal.returns-in_err-front-clause-grows
returns-in_err-front-clause-grows c =
    grows_trans c.args.store.now c.join.new.self c.add_all.new.store c.join.ensures.grows c.add_all.ensures.grows

pub returns-in_err-end-clause-grows : goal.returns-in_err-end-clause-grows
returns-in_err-end-clause-grows c =
    let s = c.args.store.now in
    let t = c.add_all.new.store in
    grows_trans s t c.add.new.self (grows_trans s c.join.new.self t c.join.ensures.grows c.add_all.ensures.grows) c.add.ensures.grows

pub returns-clause-grows : goal.returns-clause-grows
returns-clause-grows c =
    let s = c.args.store.now in
    let t = c.add_all.new.store in
    let u = c.add.new.self in
    grows_trans s u c.add_all-2.new.store (grows_trans s t u (grows_trans s c.join.new.self t c.join.ensures.grows c.add_all.ensures.grows) c.add.ensures.grows) c.add_all-2.ensures.grows
