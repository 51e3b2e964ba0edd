-- The children of a node by its number, as a test.
use Rattle.std.proofs.Common.{◌≡◌, ◌<◌, ℕ, true, List, [], length, Option, None, Some, slice_get, nat_eq}
use Rattle.std.specs.List.{Contains}
use Rattle.std.specs.Option.{IsSomeAnd, option_map_or}
use Rattle.std.proofs.lemmas.Bool.Decides.{Decides-eqb}
use Rattle.tl_spec.specs.Tree.Document.{Node}
use Rattle.tl_spec.specs.Tree.Element.{children_of}
use Rattle.tl_spec.specs.Select.Meaning.{IsChild}
use Rattle.tl_spec.proofs.Select.Tests.{any-contained}
use Rattle.tl_selector.specs.NodeSet.{children_at, is_in}

pub in_contains : (xs : List ℕ) (n : ℕ) → is_in xs n ≡ true → Contains xs n
in_contains xs n h = (any-contained nat_eq Decides-eqb n xs).0 h

pub contains_in : (xs : List ℕ) (n : ℕ) → Contains xs n → is_in xs n ≡ true
contains_in xs n h = (any-contained nat_eq Decides-eqb n xs).1 h

listed-in : (o : Option Node) (n : ℕ) → IsSomeAnd o (λ node. Contains (children_of node) n) → is_in (option_map_or children_of o []) n ≡ true
listed-in None n h = absurd h
listed-in (Some node) n h = contains_in (children_of node) n h

in-listed : (o : Option Node) (n : ℕ) → is_in (option_map_or children_of o []) n ≡ true → IsSomeAnd o (λ node. Contains (children_of node) n)
in-listed None n h = cc
in-listed (Some node) n h = in_contains (children_of node) n h

pub child_listed : (g : List Node) (m n : ℕ) → IsChild g m n → is_in (children_at g m) n ≡ true
child_listed g m n h = listed-in (slice_get g m) n h.listed

pub listed_child : (g : List Node) (m n : ℕ) → n < length g → is_in (children_at g m) n ≡ true → IsChild g m n
listed_child g m n h k = record { within = h; listed = in-listed (slice_get g m) n k }
