-- What the proof of the readers rests on, and no caller has to read: drafts, which hold a message after some of
-- its records.
pub mod Draft
pub mod Answers
pub mod Entries
pub mod Views
pub mod Bodies
pub mod Taken
