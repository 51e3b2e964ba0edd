-- What settling has done, one part after the other.
use Rattle.std.proofs.Common.{IsTrue, List, None, Option, [], ap, ap₂, arith, length, reverse, subst, sym, ℕ, ◌+◌, ◌++◌, ◌∙◌, ◌≡◌, ◌∷◌}
use Rattle.std.proofs.lemmas.List.{reverse-append}
use Rattle.tl_dom_spec.specs.Marks.{Marked}
use Rattle.tl_dom_spec.specs.Path.{Nodes, and_element, joined, no_nodes}
use Rattle.tl_tree.proofs.Gathers.{gathered-joined}
use Rattle.tl_tree.specs.Inner.Gathering.{Flat, Gathered, closed, flat, flushed, gathered, only_rows}
use Rattle.tl_tree.specs.Inner.RowView.{held_in}
use Rattle.tl_tree.specs.Inner.Settling.{Goes, Pushes, Sound, Turns, flats_of, held_weight, opened_weight, pending_of, resumed, stack_weight, state_of, text_with, weight_of, whole_of}
use Rattle.tl_tree.specs.Inner.Store.{is_row, node_of, nodes_of, tag_at}
use Rattle.tl_tree.specs.declared.cell.Node.{Node}
use Rattle.tl_tree.specs.declared.row.Held.{Held}
use Rattle.tl_tree.specs.declared.settling.Opened.{Opened}
use Rattle.tl_tree.specs.declared.settling.Opened.TheVariants as opened
use Rattle.tl_tree.specs.declared.settling.Settling.{Settling}
use Rattle.tl_tree.specs.declared.store.Store.{Store}

-- a row more, where no text waits
pub turns-push : (old mid new : Settling) (rows all : List Flat) (held : Held) (behind : ℕ) → Turns old mid (only_rows rows) → Pushes mid new held behind → rows ++ flat (held_in mid.store (text_with mid.store mid.copied.items) held) behind ∷ [] ≡ all → Turns old new (only_rows all)
turns-push old mid new rows all held behind t p is =
    let node = held_in mid.store (text_with mid.store mid.copied.items) held in
    record {
      sound = p.sound;
      store = p.store ∙ t.store;
      state = same-state (pending_of new.store new.source new.pieces.items) None (flats_of new) all
          (ap (λ s. pending_of s new.source new.pieces.items) p.store ∙ (ap₂ (pending_of mid.store) p.source p.pieces ∙ ap (λ (g : Gathered). g.pending) t.state))
          (p.rows ∙ (ap (λ v. v ++ flat node behind ∷ []) (ap (λ (g : Gathered). g.rows) t.state) ∙ is));
      stack = p.stack ∙ t.stack;
    }
  where
    same-state : (a b : Option (Marked (List ℕ))) (x y : List Flat) → a ≡ b → x ≡ y → (let g : Gathered = record { pending = a; rows = x } in g) ≡ (let g : Gathered = record { pending = b; rows = y } in g)
    same-state a b x y e f =
        ap (λ v. let g : Gathered = record { pending = v; rows = x } in g) e ∙ ap (λ v. let g : Gathered = record { pending = b; rows = v } in g) f

-- The stack

pub stack-last : (s : Store) (stack : List Opened) (own : Opened) → stack_weight s (stack ++ own ∷ []) ≡ stack_weight s stack + opened_weight s own
stack-last s [] own = omega arith
stack-last s (first ∷ stack) own = let h = stack-last s stack own in omega (arith, h)

pub resumed-last : (s : Store) (stack : List Opened) (own : Opened) (g : Gathered) → resumed s (reverse (stack ++ own ∷ [])) g ≡ resumed s (own ∷ reverse stack) g
resumed-last s stack own g = ap (λ v. resumed s v g) (reverse-append stack (own ∷ []))

-- all that is written, by its parts
pub whole-same : (old new : Settling) (nodes : Nodes) → new.store ≡ old.store → new.stack.items ≡ old.stack.items → whole_of new nodes ≡ resumed old.store (reverse old.stack.items) (gathered nodes (state_of new))
whole-same old new nodes store stack =
    ap (λ s. resumed s (reverse new.stack.items) (gathered nodes (state_of new))) store
    ∙ ap (λ v. resumed old.store (reverse v) (gathered nodes (state_of new))) stack

weight-same : (old new : Settling) → new.store ≡ old.store → new.stack.items ≡ old.stack.items → (n : ℕ) → weight_of new.store n + stack_weight new.store new.stack.items ≡ weight_of old.store n + stack_weight old.store old.stack.items
weight-same old new store stack n =
    ap (λ s. weight_of s n + stack_weight s new.stack.items) store
    ∙ ap (λ v. weight_of old.store n + stack_weight old.store v) stack

row-same : (old new : Settling) → new.store ≡ old.store → (n : ℕ) → IsTrue (is_row old.store n) → IsTrue (is_row new.store n)
row-same old new store n h = subst (λ s. IsTrue (is_row s n)) (sym store) h

-- a node of its own is written: what stands before it is next
pub goes-before : (old new : Settling) (before : ℕ) (node : Node) (given : Gathered) → IsTrue (is_row old.store before) → Turns old new given → given ≡ gathered (node_of old.store node) (state_of old) → held_weight old.store node ≡ 0 → Goes old new (joined (nodes_of old.store before) (node_of old.store node)) (1 + weight_of old.store before + held_weight old.store node) before
goes-before old new before node given h t is light =
    let s = old.store in
    let same = weight-same old new t.store t.stack before in
    record {
      sound = t.sound;
      store = t.store;
      within = row-same old new t.store before h;
      whole =
          ap (λ v. whole_of new (nodes_of v before)) t.store
          ∙ (whole-same old new (nodes_of s before) t.store t.stack
          ∙ ap (resumed s (reverse old.stack.items)) (ap (gathered (nodes_of s before)) (t.state ∙ is) ∙ sym (gathered-joined (nodes_of s before) (node_of s node) (state_of old))));
      less = omega (arith, same, light);
    }

-- nodes that are joined to a row: they are next, and then the row
pub goes-joined : (old new : Settling) (before second : ℕ) → Sound new → IsTrue (is_row old.store second) → new.store ≡ old.store → state_of new ≡ state_of old → new.stack.items ≡ old.stack.items ++ opened.Row before ∷ [] → Goes old new (joined (nodes_of old.store before) (nodes_of old.store second)) (1 + weight_of old.store before + (1 + weight_of old.store second)) second
goes-joined old new before second sound h store state stack =
    let s = old.store in
    let more : stack_weight new.store new.stack.items ≡ stack_weight s old.stack.items + (1 + weight_of s before) =
    ap (λ v. stack_weight v new.stack.items) store ∙ (ap (stack_weight s) stack ∙ stack-last s old.stack.items (opened.Row before)) in
    let own : weight_of new.store second ≡ weight_of s second = ap (λ v. weight_of v second) store in
    record {
      sound = sound;
      store = store;
      within = row-same old new store second h;
      whole =
          ap (λ v. resumed v (reverse new.stack.items) (gathered (nodes_of v second) (state_of new))) store
          ∙ (ap (λ v. resumed s (reverse v) (gathered (nodes_of s second) (state_of new))) stack
          ∙ (ap (λ v. resumed s (reverse (old.stack.items ++ opened.Row before ∷ [])) (gathered (nodes_of s second) v)) state
          ∙ (resumed-last s old.stack.items (opened.Row before) (gathered (nodes_of s second) (state_of old))
          ∙ ap (resumed s (reverse old.stack.items)) (sym (gathered-joined (nodes_of s before) (nodes_of s second) (state_of old))))));
      less = omega (arith, more, own);
    }

-- an element: what is below it is next
pub goes-open : (old mid new : Settling) (tag before below behind : ℕ) → Sound new → IsTrue (is_row old.store below) → Turns old mid (only_rows (flushed (state_of old))) → new.store ≡ mid.store → state_of new ≡ state_of mid → new.stack.items ≡ mid.stack.items ++ opened.Element tag before behind ∷ [] → behind ≡ length (flats_of mid) → Goes old new (and_element (nodes_of old.store before) (tag_at old.store tag) (nodes_of old.store below)) (1 + weight_of old.store before + (1 + weight_of old.store below)) below
goes-open old mid new tag before below behind sound h t store state stack count =
    let s = old.store in
    let kept : new.store ≡ old.store = store ∙ t.store in
    let pushed : new.stack.items ≡ old.stack.items ++ opened.Element tag before behind ∷ [] = stack ∙ ap (λ v. v ++ opened.Element tag before behind ∷ []) t.stack in
    let now : state_of new ≡ only_rows (flushed (state_of old)) = state ∙ t.state in
    let so-many : behind ≡ length (flushed (state_of old)) = count ∙ ap (λ (g : Gathered). length g.rows) t.state in
    let more : stack_weight new.store new.stack.items ≡ stack_weight s old.stack.items + (1 + weight_of s before) =
    ap (λ v. stack_weight v new.stack.items) kept ∙ (ap (stack_weight s) pushed ∙ stack-last s old.stack.items (opened.Element tag before behind)) in
    let own : weight_of new.store below ≡ weight_of s below = ap (λ v. weight_of v below) kept in
    record {
      sound = sound;
      store = kept;
      within = row-same old new kept below h;
      whole =
          ap (λ v. resumed v (reverse new.stack.items) (gathered (nodes_of v below) (state_of new))) kept
          ∙ (ap (λ v. resumed s (reverse v) (gathered (nodes_of s below) (state_of new))) pushed
          ∙ (ap (λ v. resumed s (reverse (old.stack.items ++ opened.Element tag before behind ∷ [])) (gathered (nodes_of s below) v)) now
          ∙ (resumed-last s old.stack.items (opened.Element tag before behind) (gathered (nodes_of s below) (only_rows (flushed (state_of old))))
          ∙ ap (λ n. resumed s (reverse old.stack.items) (gathered (nodes_of s before) (closed (tag_at s tag) n (gathered (nodes_of s below) (only_rows (flushed (state_of old))))))) so-many)));
      less = omega (arith, more, own);
    }

-- a row is written: what it was joined to is next
pub goes-row : (old new : Settling) (before : ℕ) → Sound new → IsTrue (is_row old.store before) → new.store ≡ old.store → state_of new ≡ state_of old → old.stack.items ≡ new.stack.items ++ opened.Row before ∷ [] → Goes old new no_nodes 0 before
goes-row old new before sound h store state stack =
    let s = old.store in
    let more : stack_weight s old.stack.items ≡ stack_weight s new.stack.items + (1 + weight_of s before) = ap (stack_weight s) stack ∙ stack-last s new.stack.items (opened.Row before) in
    let own : weight_of new.store before + stack_weight new.store new.stack.items ≡ weight_of s before + stack_weight s new.stack.items = ap (λ v. weight_of v before + stack_weight v new.stack.items) store in
    record {
      sound = sound;
      store = store;
      within = row-same old new store before h;
      whole =
          ap (λ v. resumed v (reverse new.stack.items) (gathered (nodes_of v before) (state_of new))) store
          ∙ (ap (λ v. resumed s (reverse new.stack.items) (gathered (nodes_of s before) v)) state
          ∙ sym (ap (λ v. resumed s (reverse v) (state_of old)) stack ∙ resumed-last s new.stack.items (opened.Row before) (state_of old)));
      less = omega (arith, more, own);
    }

-- all below an element is written: it is closed, and what stands before it is next
pub goes-close : (old mid new : Settling) (tag before behind : ℕ) → IsTrue (is_row old.store before) → mid.store ≡ old.store → state_of mid ≡ state_of old → old.stack.items ≡ mid.stack.items ++ opened.Element tag before behind ∷ [] → Turns mid new (closed (tag_at mid.store tag) behind (state_of mid)) → Goes old new no_nodes 0 before
goes-close old mid new tag before behind h store state stack t =
    let s = old.store in
    let kept : new.store ≡ old.store = t.store ∙ store in
    let more : stack_weight s old.stack.items ≡ stack_weight s mid.stack.items + (1 + weight_of s before) = ap (stack_weight s) stack ∙ stack-last s mid.stack.items (opened.Element tag before behind) in
    let own : weight_of new.store before + stack_weight new.store new.stack.items ≡ weight_of s before + stack_weight s mid.stack.items =
    ap (λ v. weight_of v before + stack_weight v new.stack.items) kept ∙ ap (λ v. weight_of s before + stack_weight s v) t.stack in
    record {
      sound = t.sound;
      store = kept;
      within = row-same old new kept before h;
      whole =
          ap (λ v. resumed v (reverse new.stack.items) (gathered (nodes_of v before) (state_of new))) kept
          ∙ (ap (λ v. resumed s (reverse v) (gathered (nodes_of s before) (state_of new))) t.stack
          ∙ (ap (λ v. resumed s (reverse mid.stack.items) (gathered (nodes_of s before) v)) (t.state ∙ (ap (λ v. closed (tag_at v tag) behind (state_of mid)) store ∙ ap (closed (tag_at s tag) behind) state))
          ∙ sym (ap (λ v. resumed s (reverse v) (state_of old)) stack ∙ resumed-last s mid.stack.items (opened.Element tag before behind) (state_of old))));
      less = omega (arith, more, own);
    }

-- the same for other nodes that are the same
pub goes-as : (old new : Settling) (nodes other : Nodes) (weight more next : ℕ) → nodes ≡ other → weight ≡ more → Goes old new nodes weight next → Goes old new other more next
goes-as old new nodes other weight more next e f g =
    subst (λ v. Goes old new v more next) e (subst (λ v. Goes old new nodes v next) f g)
