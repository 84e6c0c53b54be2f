pub mod DirFolder
