use Rattle.std.proofs.Common.{◌≡◌, map, take}
use Rattle.tl.specs.Inner.Names.{key_of}
use Rattle.tl.specs.View.{node_view}
use Rattle.tl.specs.Tracked.{AreAsked, AnswerIds, AnswerClasses}
use Rattle.tl.proofs.parser.tracking.tracking_of.Given as goal

abbrev pub invariant-loop-number : goal.invariant-loop-number
invariant-loop-number l = record {
  asked : AreAsked l.fn.options l.tracking;
  ids : AnswerIds l.tracking (map node_view (take l.number l.nodes));
  classes : AnswerClasses l.tracking (map node_view (take l.number l.nodes));
  key : l.tracking.key ≡ key_of l.fn.options (map node_view l.nodes);
}
