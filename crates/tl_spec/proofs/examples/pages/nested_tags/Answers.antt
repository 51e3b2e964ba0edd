use Rattle.std.proofs.Common.{refl, ap, [], ◌∷◌, codes, Some, None, Ok}
use Rattle.std.specs.List.{slice_get}
use Rattle.tl_spec.specs.Tree.Forest.{none}
use Rattle.tl_spec.specs.Tree.Document.{Document, document}
use Rattle.tl_spec.specs.Walk.{walk, walk_of, prints_children, trees}
use Rattle.tl_spec.proofs.Print.Ascii.{print-ascii, document_print-ascii, document_text-ascii}
use Rattle.tl_spec.proofs.examples.pages.nested_tags.Goals as goal

pub returns-clause-prints : goal.returns-clause-prints
returns-clause-prints c = document_print-ascii (document (codes "abc <p>test<span>a</span></p> def")) refl

pub returns-clause-outer : goal.returns-clause-outer
returns-clause-outer c = let d : Document = document (codes "abc <p>test<span>a</span></p> def") in
    ap (λ s. Some (Ok s)) (print-ascii (elim (slice_get d.nodes 1) [ None ↦ none | Some n ↦ trees (walk_of prints_children d.nodes n) ]) refl)

pub returns-clause-inner : goal.returns-clause-inner
returns-clause-inner c = let d : Document = document (codes "abc <p>test<span>a</span></p> def") in
    ap (λ s. Some (Ok s)) (print-ascii (trees (walk prints_children d.nodes [] (2 ∷ 3 ∷ []))) refl)

pub returns-clause-says : goal.returns-clause-says
returns-clause-says c = document_text-ascii (document (codes "abc <p>test<span>a</span></p> def")) refl
