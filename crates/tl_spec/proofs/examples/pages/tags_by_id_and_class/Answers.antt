use Rattle.std.proofs.Common.{refl, [], codes}
use Rattle.tl_spec.specs.Tree.Document.{document}
use Rattle.tl_spec.proofs.Print.Ascii.{class_scan-ascii}
use Rattle.tl_spec.proofs.examples.pages.tags_by_id_and_class.Goals as goal

pub returns-clause-member_twice : goal.returns-clause-member_twice
returns-clause-member_twice c = class_scan-ascii (document (codes "<img id=\"x\"><p id=\"x\" class=\"k k\">")).nodes (codes "k") refl

pub returns-clause-class_of_two : goal.returns-clause-class_of_two
returns-clause-class_of_two c = class_scan-ascii (document (codes "<p class=\"k k\"><br class=k>")).nodes (codes "k") refl

pub returns-clause-texts_count : goal.returns-clause-texts_count
returns-clause-texts_count c = class_scan-ascii (document (codes "a<p class=k>b<br class=k>")).nodes (codes "k") refl

pub returns-clause-empty_class : goal.returns-clause-empty_class
returns-clause-empty_class c = class_scan-ascii (document (codes "<p class=\"k k\"><br class=k>")).nodes [] refl

pub returns-clause-part_of_a_member : goal.returns-clause-part_of_a_member
returns-clause-part_of_a_member c = class_scan-ascii (document (codes "<p class=\"k kk\">")).nodes (codes "kkk") refl
