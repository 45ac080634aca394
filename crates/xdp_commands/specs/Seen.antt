-- Stated: claims rest on this file.
-- What the code's values stand for.
use Rattle.std.specs.Prelude.{string_bytes}
use Rattle.xdp_commands.specs.declared.request.Request.{Request}
use Rattle.xdp_commands.specs.declared.request.Request.TheVariants as code
use Rattle.xdp_commands.specs.declared.answer.Answer.{Answer}
use Rattle.xdp_commands.specs.Answer.{Said}
use Rattle.xdp_commands.specs.Words.{Wanted, exec, check, explain, same, run, filter, pair, help, version}

abbrev pub wanted_of : Request → Wanted
wanted_of (code.Exec program packet) = exec program.now packet.now
wanted_of code.Check = check
wanted_of code.Explain = explain
wanted_of code.Same = same
wanted_of code.Run = run
wanted_of code.Filter = filter
wanted_of (code.Pair turns host) = pair turns host
wanted_of (code.Help topic) = help topic
wanted_of code.Version = version

abbrev pub said_of : Answer → Said
said_of a = (string_bytes a.text, a.status)
