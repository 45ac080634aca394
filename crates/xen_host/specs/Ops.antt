-- Stated: claims rest on this file.
-- The struct that C gets of an op: include/laxonje.h has its fields in this order.
use Rattle.std.specs.Prelude.{ℕ}
use Rattle.xen_page.specs.declared.place.Place.{Place}
use Rattle.xen_host.specs.declared.op.HostOp.{HostOp}

-- nothing
abbrev pub blank : HostOp
blank =
    record {
      kind = 0;
      frame = 0;
      word = 0;
      count = 0;
      lent = 0;
      first = 0;
      second = 0;
      entry = 0;
    }

-- words of a page
abbrev pub access : ℕ → Place → ℕ → HostOp
access kind at count = record blank { kind = kind; frame = at.frame; word = at.word; count = count }

-- a turn, a delivery or a wait is over: the header's union has `outcome` where an access has `frame`, `number` for `word`, `cause` for
-- `count`, `ops` for `lent` and `slots` for `first`
abbrev pub over : ℕ → ℕ → ℕ → HostOp
over outcome cause slots = record blank { kind = 4; frame = outcome; count = cause; first = slots }
