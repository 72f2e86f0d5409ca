-- What the links of a chained pair line mean.
use Rattle.hq_certread.specs.declared.pairs.Numbers.{Numbers}
use Rattle.hq_certread.specs.declared.pairs.Links.{Links}
use Rattle.hq_cert.specs.View.{cited}

-- the lines' numbers, None for `=`
abbrev pub links_of : Links → Numbers
links_of a = record
    { from = cited a.from; link = cited a.link; between = a.between; link2 = cited a.link2; to = cited a.to }
