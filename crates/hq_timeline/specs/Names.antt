-- The words of timelines.
use Rattle.std.specs.Prelude.{ℕ, List, codes}

-- the first line's
abbrev pub head_word : List ℕ
head_word = codes "hsat"

-- the format's version, the second word of the first line
abbrev pub version_word : List ℕ
version_word = codes "1"

-- the last line's
abbrev pub end_word : List ℕ
end_word = codes "end"

-- the events'

-- for a packet that the host puts into its queue
abbrev pub submit_word : List ℕ
submit_word = codes "submit"

-- for the launch of a queue's next packet
abbrev pub launch_word : List ℕ
launch_word = codes "launch"

-- for a dependency of a barrier packet that is seen at 0
abbrev pub observe_word : List ℕ
observe_word = codes "observe"

-- for the end of a packet's wait, with its acquire fence
abbrev pub enter_word : List ℕ
enter_word = codes "enter"

-- for all reads of a packet
abbrev pub fetch_word : List ℕ
fetch_word = codes "fetch"

-- for all stores of a packet
abbrev pub deliver_word : List ℕ
deliver_word = codes "deliver"

-- for the completion of a packet, with the write-backs that its release fence asks for
abbrev pub complete_word : List ℕ
complete_word = codes "complete"

-- for all write-backs that are left
abbrev pub rest_word : List ℕ
rest_word = codes "rest"

-- for one read of a packet
abbrev pub read_word : List ℕ
read_word = codes "read"

-- for one store of a packet
abbrev pub store_word : List ℕ
store_word = codes "store"

-- for the completion of a packet alone
abbrev pub finish_word : List ℕ
finish_word = codes "finish"

-- for the write-back of a byte from a lane to its agent
abbrev pub push_lane_word : List ℕ
push_lane_word = codes "pushlane"

-- for the write-back of a byte from an agent to memory
abbrev pub push_agent_word : List ℕ
push_agent_word = codes "pushagent"

-- for a clean copy that a lane takes
abbrev pub fill_lane_word : List ℕ
fill_lane_word = codes "filllane"

-- for a clean copy that an agent takes
abbrev pub fill_agent_word : List ℕ
fill_agent_word = codes "fillagent"

-- for a clean copy that a lane lets go
abbrev pub drop_lane_word : List ℕ
drop_lane_word = codes "droplane"

-- for a clean copy that an agent lets go
abbrev pub drop_agent_word : List ℕ
drop_agent_word = codes "dropagent"
