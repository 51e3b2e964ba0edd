use Rattle.std.proofs.Common.{◌≡◌, ◌++◌, [], ℕ, List, false, true, map, ap, sym, subst, ◌∙◌, string_bytes}
use Rattle.tl_spec.specs.Lex.ByteClass.{is_printed_alone}
use Rattle.tl_spec.specs.Print.Clean.{HaveOwnKeys}
use Rattle.tl_spec.specs.Tree.Document.{Node, Tag, TagNode}
use Rattle.tl_spec.specs.Print.{print, print_start, print_end}
use Rattle.tl_spec.specs.Walk.{first_fault, plain_node, prints_children, trees, walk, walk_of}
use Rattle.tl.specs.View.{node_view, tag_view}
use Rattle.tl.proofs.Printing.{fault-entered, own-entered, own-passed, print-entered, three}
use Rattle.tl.proofs.walk.print.write_tag.Goals as goal

pub returns-clause-writes : goal.returns-clause-writes
returns-clause-writes c =
    let nodes : List Node = map node_view c.args.nodes.now in
    let own : TagNode = tag_view c.args.tag.now in
    let entered : is_printed_alone own.name ≡ false =
    sym (ap is_printed_alone (c.as_bytes.ensures ∙ ap (λ b. b.list) c.name.ensures)) ∙ sym c.is_printed_alone.ensures ∙ c.if-is_printed_alone.false in
    let children : own.children.items ≡ c.as_slice.result.now = sym (c.as_slice.ensures ∙ ap (λ v. v.items) c.child_handles.ensures) in
    let inside : List ℕ = print (trees (walk prints_children nodes [] own.children.items)) in
    let row : string_bytes c.write_row.new.out ≡ string_bytes c.write_start.new.out ++ inside =
    c.in_ok-write_row.ensures.writes.1 ∙ ap (λ hs. string_bytes c.write_start.new.out ++ print (trees (walk prints_children nodes [] hs))) (sym children) in (
      fault-entered nodes own entered ∙ ap (λ hs. first_fault (walk prints_children nodes [] hs)) children ∙ c.in_ok-write_row.ensures.writes.0,
      three (print_start (plain_node own)) inside (print_end (plain_node own)) (print (trees (walk_of prints_children nodes (Tag own))))
          (string_bytes c.args.out.now) (string_bytes c.write_start.new.out) (string_bytes c.write_row.new.out) (string_bytes c.write_end.new.out)
          c.in_ok-write_start.ensures.ok row c.in_ok-write_end.ensures.ok (print-entered nodes own entered),
    )

pub returns-clause-own : goal.returns-clause-own
returns-clause-own c =
    let nodes : List Node = map node_view c.args.nodes.now in
    let own : TagNode = tag_view c.args.tag.now in
    let entered : is_printed_alone own.name ≡ false =
    sym (ap is_printed_alone (c.as_bytes.ensures ∙ ap (λ b. b.list) c.name.ensures)) ∙ sym c.is_printed_alone.ensures ∙ c.if-is_printed_alone.false in
    let children : c.as_slice.result.now ≡ own.children.items = c.as_slice.ensures ∙ ap (λ v. v.items) c.child_handles.ensures in
    own-entered nodes own entered c.in_ok-write_start.ensures.own (subst (λ hs. HaveOwnKeys (trees (walk prints_children nodes [] hs))) children c.in_ok-write_row.ensures.own)

pub returns-then-is_printed_alone-clause-own : goal.returns-then-is_printed_alone-clause-own
returns-then-is_printed_alone-clause-own c =
    let own : TagNode = tag_view c.args.tag.now in
    let alone : is_printed_alone own.name ≡ true =
    sym (ap is_printed_alone (c.as_bytes.ensures ∙ ap (λ b. b.list) c.name.ensures)) ∙ sym c.is_printed_alone.ensures ∙ c.if-is_printed_alone.true in
    own-passed (map node_view c.args.nodes.now) own alone c.in_ok-write_start.ensures.own
