-- Stated: claims rest on this file.
-- What holds of a pair.
use Rattle.honest_pair.specs.Invariant.Backs.{AskLaw, BackLaw, DeliveryLaw, ForgetLaw, GivenLaw, HeardLaw, LookLaw, PrefixLaw, ToldLaw, WakeLaw}

abbrev pub BackLaws : Type 0
BackLaws = BackLaw × WakeLaw × PrefixLaw × GivenLaw × HeardLaw × DeliveryLaw × AskLaw × LookLaw × ForgetLaw × ToldLaw
