-- What a contract sees of a table of nodes, and of what is tracked beside them.
use Rattle.std.specs.Prelude.{ℕ, List, Option}
use Rattle.tl.specs.declared.parser.tag.node.NodeOf.{NodeOf}
use Rattle.tl.specs.declared.parser.base.HTMLVersion.{HTMLVersion}

pub record Table (A B O M : Type 0) : Type 0 where
  pub nodes : List (NodeOf A B O)
  pub top : List ℕ
  pub version : Option HTMLVersion
  pub tracking : M
