-- What the builders' contracts cite.
-- their answers
pub mod Answers
-- inside: buffers that have room
pub mod Open
-- inside: the path of the costs up
pub mod Leading
