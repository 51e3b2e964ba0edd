use Rattle.tl_attributes.specs.Summary.{fingerprint_of}
use Rattle.tl_attributes.proofs.Bits.{all_set}
use Rattle.tl_attributes.proofs.summary.SummarySummaryOfAttributes.unknown.Goals as goal

pub returns : goal.returns
returns c = λ attributes. record { id = tt; class = λ member h. all_set (fingerprint_of member) }
