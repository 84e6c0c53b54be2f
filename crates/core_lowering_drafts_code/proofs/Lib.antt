-- What is proved of the functions that write the code of drafts.
mod OnlySteps
mod RoomSteps
