-- Stated: claims rest on this file.
-- What `help` and `version` print.
use Rattle.std.specs.Prelude.{ℕ, List, ◌++◌, codes}
use Rattle.xdp_commands.specs.declared.help.Topic.{Topic}
use Rattle.xdp_commands.specs.declared.help.Topic.TheVariants as topic

-- the lines on a topic
abbrev pub help_lines : Topic → List ℕ
help_lines topic.Commands = codes "xdpbox exec PROGRAM PACKET: runs a program once on a packet, both in hex\n"
    ++ codes "xdpbox check < SETTINGS: verifies the program of the settings\n"
    ++ codes "xdpbox explain < SETTINGS: prints its listing, and why it is refused\n"
    ++ codes "xdpbox same < SETTINGS: compares it with the program that it was made from\n"
    ++ codes "xdpbox filter < SETTINGS: runs it on the packets of the settings\n"
    ++ codes "xdpbox run < SETTINGS: runs it in queues of netback, by a script\n"
    ++ codes "xdpbox pair [--turns N] [--answer] < SETTINGS: runs it between netback and netfront, on threads\n"
    ++ codes "xdpbox help [COMMAND]: prints these lines, or what one command prints and its exit statuses\n"
    ++ codes "xdpbox version: prints the version\n"
    ++ codes "exit status: 0 done, 1 refused, 2 words or settings refused, 3 out of memory, 4 a read or a write failed\n"
help_lines topic.Exec = codes "xdpbox exec PROGRAM PACKET\n"
    ++ codes "PROGRAM has eight bytes a slot and no maps, PACKET 0 to 65535 bytes; both are hex without blanks.\n"
    ++ codes "Prints the action and the packet as the program left it; 1: the program is refused.\n"
help_lines topic.Check = codes "xdpbox check < SETTINGS\n"
    ++ codes "Prints how many instructions and slots the program has; 1: it is refused, with the cause and the slot.\n"
help_lines topic.Explain = codes "xdpbox explain < SETTINGS\n"
    ++ codes "Prints the listing and the line of check, for a refused program what was known there and what to write instead; 1: it is refused.\n"
help_lines topic.Same = codes "xdpbox same < SETTINGS\n"
    ++ codes "The settings have, in a table original, the first program, or an object and the name of its function.\n"
    ++ codes "Prints same, same by counts, same alone or not shown; 1: not shown, or one of both is refused.\n"
help_lines topic.Filter = codes "xdpbox filter < SETTINGS\n"
    ++ codes "Prints a line for each run on a packet, then each counter that isn't 0; 1: the program is refused.\n"
help_lines topic.Run = codes "xdpbox run < SETTINGS\n"
    ++ codes "Prints a line for each turn of a queue, then each counter that isn't 0; 1: the program is refused.\n"
help_lines topic.Pair = codes "xdpbox pair [--turns N] [--answer] < SETTINGS\n"
    ++ codes "N is 1 to 1000000 turns of each queue, 100000 if it isn't given; --answer sends passed packets back.\n"
    ++ codes "Prints what each queue did, then each counter that isn't 0; 1: the program is refused, 4: also if a thread or a mapping fails.\n"
help_lines topic.Help = codes "xdpbox help [COMMAND]\n"
    ++ codes "Prints the lines on a command, or on all; 2: there is no such command.\n"
help_lines topic.Version = codes "xdpbox version\n"
    ++ codes "Prints the version of the sources.\n"

-- the line of `version`: the release of these sources
abbrev pub version_line : List ℕ
version_line = codes "xdpbox 4.0.0\n"
