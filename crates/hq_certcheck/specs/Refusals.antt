-- When a certificate isn't accepted.
use Rattle.hq_certcheck.specs.declared.fault.CheckNo.{CheckNo}
use Rattle.hq_certcheck.specs.declared.fault.CheckNo.TheVariants.{BadOrder, BadLine, PairMissing, BadPair, Memory}
use Rattle.hq_model.specs.Job.{Job}
use Rattle.hq_model.specs.Order.{OrderList}
use Rattle.hq_model.specs.Certificate.{Certificate, LinesHold}
use Rattle.hq_certcheck.specs.Covering.{NoneMissing, FirstMissing}
use Rattle.hq_certcheck.specs.Listed.{FirstBadLine, FirstBadPair}

-- The reason is true of the certificate, and those that are tested before it aren't.
abbrev pub IsRefused : Job → Certificate → CheckNo → Type 0
IsRefused job c BadOrder = ¬ OrderList job c.order
IsRefused job c (BadLine k) = OrderList job c.order × FirstBadLine job c.lines k
IsRefused job c (PairMissing p r) = OrderList job c.order × LinesHold job c.lines × FirstMissing job c.pairs p r
IsRefused job c (BadPair p r) = OrderList job c.order × LinesHold job c.lines × NoneMissing job c.pairs
    × FirstBadPair job c.lines c.pairs p r
IsRefused job c Memory = Unit {0}
